-- Places in their order, and the least fault from a place on. All that is used of the order: a place stands before another or from
-- it on, and nothing lies between a component and the next.
use Prim.Native.Nat.{ℕ, suc, ◌≤◌, ◌<◌}
use native.Mathlib.Omega.{arith}
use native.Mathlib.Decide.{dec_lt}
use mathlib.Core.Path.{◌≡◌, refl, sym, ap₂, subst}
use mathlib.Core.List.{List, [], ◌∷◌}
use mathlib.Core.Logic.{dite}
use Rattle.guide.specs.meaning.View.{Field}
use Rattle.reading.specs.declared.service.Service.{Service}
use Rattle.fields.specs.meaning.Fields.{Values, In, Breaks, Faulty, Before, LeastFault, at_fault}
use Rattle.fields.specs.meaning.Fields.In.{here, there}
use Rattle.fields.specs.meaning.Fields.Faulty.{named, unnamed}
use Rattle.fields.specs.meaning.Fields.Before.{sooner, beside}
use Rattle.std.specs.Prelude.{Result, Ok, Err}
use Rattle.fields.specs.declared.fault.Fault.{Fault}

-- x, y stands at e, c or after it
pub data From (e c x y : ℕ) : Type 0 where
  later : e < x → From e c x y
  along : e ≡ x → c ≤ y → From e c x y

pub data Side (e c x y : ℕ) : Type 0 where
  ahead : Before x y e c → Side e c x y
  on : From e c x y → Side e c x y

pub side : (e c x y : ℕ) → Side e c x y
side e c x y =
    dite (dec_lt x e) (λ h. ahead (sooner h))
    (λ n. dite (dec_lt e x) (λ h. on (later h))
    (λ m. dite (dec_lt y c) (λ h. ahead (beside (omega arith) h)) (λ h. on (along (omega arith) (omega arith)))))

not_both : (e c x y : ℕ) → From e c x y → Before x y e c → ⊥
not_both e c x y (later h) (sooner k) = omega arith
not_both e c x y (later h) (beside k l) = omega arith
not_both e c x y (along h i) (sooner k) = omega arith
not_both e c x y (along h i) (beside k l) = omega arith

only : (e c x y : ℕ) → From e c x y → Before x y e (suc c) → (x ≡ e) × (y ≡ c)
only e c x y (later h) (sooner k) = absurd (omega arith)
only e c x y (later h) (beside k l) = absurd (omega arith)
only e c x y (along h i) (sooner k) = absurd (omega arith)
only e c x y (along h i) (beside k l) = (k, omega arith)

pub from_trans : (a b e c x y : ℕ) → From a b e c → From e c x y → From a b x y
from_trans a b e c x y (later h) (later k) = later (omega arith)
from_trans a b e c x y (later h) (along k l) = later (omega arith)
from_trans a b e c x y (along h i) (later k) = later (omega arith)
from_trans a b e c x y (along h i) (along k l) = along (omega arith) (omega arith)

pub before_trans : (x y e c a b : ℕ) → Before x y e c → From e c a b → Before x y a b
before_trans x y e c a b (sooner h) (later k) = sooner (omega arith)
before_trans x y e c a b (sooner h) (along k l) = sooner (omega arith)
before_trans x y e c a b (beside h i) (later k) = sooner (omega arith)
before_trans x y e c a b (beside h i) (along k l) = beside (omega arith) (omega arith)

pub before_not : (x y a b : ℕ) → Before x y a b → a ≡ x → b ≡ y → ⊥
before_not x y a b (sooner h) p q = omega arith
before_not x y a b (beside h i) p q = omega arith

pub before_from : (x y a b : ℕ) → Before x y a b → From x (suc y) a b
before_from x y a b (sooner h) = later h
before_from x y a b (beside h i) = along h i

pub weaker : (x y a b : ℕ) → Before x y a b → From x y a b
weaker x y a b (sooner h) = later h
weaker x y a b (beside h i) = along h (omega arith)

-- after e, c and not there: from the next component on
pub from_next : (e c a b : ℕ) → From e c a b → (a ≡ e → b ≡ c → ⊥) → From e (suc c) a b
from_next e c a b (later h) n = later h
from_next e c a b (along h i) n = along h (dite (dec_lt c b) (λ k. k) (λ m. absurd (n (sym h) (omega arith))))

-- after e, c and not in e: from the next element on
pub from_element : (e c a b : ℕ) → From e c a b → (a ≡ e → ⊥) → From (suc e) 0 a b
from_element e c a b (later h) n = dite (dec_lt (suc e) a) later (λ m. along (omega arith) (omega arith))
from_element e c a b (along h i) n = absurd (n (sym h))

-- between e, c and the next element: the components of e from c on
pub rest_of_element : (e c a b : ℕ) → From e c a b → Before a b (suc e) 0 → (a ≡ e) × (c ≤ b)
rest_of_element e c a b (later h) (sooner k) = absurd (omega arith)
rest_of_element e c a b (later h) (beside k l) = absurd (omega arith)
rest_of_element e c a b (along h i) (sooner k) = (sym h, i)
rest_of_element e c a b (along h i) (beside k l) = absurd (omega arith)

-- ---- fields from a place on

pub nothing_in : {f : Field} → In f [] → ⊥
nothing_in i = elim i [ ]

abbrev pub Ahead : ℕ → ℕ → List Field → Type 0
Ahead e c fs = (h : Field) → In h fs → From e c h.element h.component

-- 01: "A line's fields rise in (element, component)", "(both 1–255)"
abbrev pub Rises : List Field → Type 0
Rises [] = Unit {0}
Rises (f ∷ fs) = (1 ≤ f.element) × (1 ≤ f.component) × ((h : Field) → In h fs → Before f.element f.component h.element h.component) × Rises fs

pub numbered : (fs : List Field) → Rises fs → (h : Field) → In h fs → (1 ≤ h.element) × (1 ≤ h.component)
numbered [] r h x'' = elim x'' [ ]
numbered (f ∷ fs) r h here = (r.0, r.1)
numbered (f ∷ fs) r h (there i) = numbered fs r.3 h i

-- ---- the least fault from a place on

module _ (s : Service) (v : Values) where
  pub record LeastAt (fs : List Field) (e c x y : ℕ) : Type 0 where
    pub reach : From e c x y
    pub faulty : Faulty s fs v x y
    pub clear : (a b : ℕ) → From e c a b → Before a b x y → Faulty s fs v a b → ⊥

  unfoldable pub LeastFrom : List Field → ℕ → ℕ → Result (Unit {0}) Fault → Type 0
  LeastFrom fs e c (Err x) = LeastAt fs e c x.element x.component
  LeastFrom fs e c (Ok _) = (a b : ℕ) → From e c a b → Faulty s fs v a b → ⊥

  -- over places without a fault
  pub skip : (fs : List Field) (e c x y : ℕ) (r : Result (Unit {0}) Fault) → From e c x y → ((a b : ℕ) → From e c a b → Before a b x y → Faulty s fs v a b → ⊥)
      → LeastFrom fs x y r → LeastFrom fs e c r
  unfolding LeastFrom
  skip fs e c x y (Err z) h n l =
      record { reach = from_trans e c x y z.element z.component h l.reach; faulty = l.faulty; clear = λ a b i j k. go a b i j k (side x y a b) }
    where
      go : (a b : ℕ) → From e c a b → Before a b z.element z.component → Faulty s fs v a b → Side x y a b → ⊥
      go a b i j k (ahead m) = n a b i m k
      go a b i j k (on m) = l.clear a b m j k
  skip fs e c x y (Ok _) h n l = λ a b i k. go a b i k (side x y a b)
    where
      go : (a b : ℕ) → From e c a b → Faulty s fs v a b → Side x y a b → ⊥
      go a b i k (ahead m) = n a b i m k
      go a b i k (on m) = l a b m k

  pub clean_from : (fs : List Field) (e c : ℕ) → ((a b : ℕ) → From e c a b → Faulty s fs v a b → ⊥) → LeastFrom fs e c (Ok tt)
  unfolding LeastFrom
  clean_from fs e c h = h

  pub faulty_here : (fs : List Field) (e c : ℕ) → Faulty s fs v e c → LeastFrom fs e c (at_fault e c)
  unfolding LeastFrom
  faulty_here fs e c f = record { reach = along refl (omega arith); faulty = f; clear = λ a b i j k. not_both e c a b i j }

  pub clear_here : (fs : List Field) (e c : ℕ) (r : Result (Unit {0}) Fault) → (Faulty s fs v e c → ⊥) → LeastFrom fs e (suc c) r → LeastFrom fs e c r
  clear_here fs e c r n l = skip fs e c e (suc c) r (along refl (omega arith)) clear l
    where
      clear : (a b : ℕ) → From e c a b → Before a b e (suc c) → Faulty s fs v a b → ⊥
      clear a b i j k =
          let o = only e c a b i j in
          n (subst (λ (z : ℕ). Faulty s fs v e z) o.1 (subst (λ (z : ℕ). Faulty s fs v z b) o.0 k))

  -- a field that names another place does not matter
  less : (f : Field) (fs : List Field) (a b : ℕ) → (f.element ≡ a → f.component ≡ b → ⊥) → Faulty s (f ∷ fs) v a b → Faulty s fs v a b
  less f fs a b n (named g i p q x) = go g i p q x
    where
      go : (g : Field) → In g (f ∷ fs) → g.element ≡ a → g.component ≡ b → Breaks s g v → Faulty s fs v a b
      go g here p q x = absurd (n p q)
      go g (there j) p q x = named g j p q x
  less f fs a b n (unnamed h x) = unnamed (λ g i. h g (there i)) x

  more : (f : Field) (fs : List Field) (a b : ℕ) → (f.element ≡ a → f.component ≡ b → ⊥) → Faulty s fs v a b → Faulty s (f ∷ fs) v a b
  more f fs a b n (named g i p q x) = named g (there i) p q x
  more f fs a b n (unnamed h x) = unnamed go x
    where
      go : (g : Field) → In g (f ∷ fs) → g.element ≡ a → g.component ≡ b → ⊥
      go g here p q = n p q
      go g (there j) p q = h g j p q

  pub passed : (f : Field) (fs : List Field) (e c : ℕ) (r : Result (Unit {0}) Fault) → Before f.element f.component e c → LeastFrom fs e c r → LeastFrom (f ∷ fs) e c r
  unfolding LeastFrom
  passed f fs e c (Err x) h l =
      record {
        reach = l.reach;
        faulty = more f fs x.element x.component (other x.element x.component l.reach) l.faulty;
        clear = λ a b i j k. l.clear a b i j (less f fs a b (other a b i) k);
      }
    where
      other : (a b : ℕ) → From e c a b → f.element ≡ a → f.component ≡ b → ⊥
      other a b i p q = before_not _ _ _ _ (before_trans _ _ _ _ _ _ h i) (sym p) (sym q)
  passed f fs e c (Ok _) h l = λ a b i k. l a b i (less f fs a b (other a b i) k)
    where
      other : (a b : ℕ) → From e c a b → f.element ≡ a → f.component ≡ b → ⊥
      other a b i p q = before_not _ _ _ _ (before_trans _ _ _ _ _ _ h i) (sym p) (sym q)

  -- an empty value that no field names is no fault
  pub calm : (fs : List Field) (a b : ℕ) → v a b ≡ [] → ((h : Field) → In h fs → Before a b h.element h.component) → Faulty s fs v a b → ⊥
  calm fs a b z n (named g i p q x) = before_not a b _ _ (n g i) p q
  calm fs a b z n (unnamed h x) = x z

  -- at the place of the first field, the others do not matter
  pub first_kept : (f : Field) (fs : List Field) → Rises (f ∷ fs) → (Breaks s f v → ⊥) → Faulty s (f ∷ fs) v f.element f.component → ⊥
  first_kept f fs r n (named g i p q x) = go g i p q x
    where
      go : (g : Field) → In g (f ∷ fs) → g.element ≡ f.element → g.component ≡ f.component → Breaks s g v → ⊥
      go g here p q x = n x
      go g (there j) p q x = before_not _ _ _ _ (r.2 g j) p q
  first_kept f fs r n (unnamed h x) = h f here refl refl

  -- from the first place on, the least of all
  pub least_of_all : (fs : List Field) (r : Result (Unit {0}) Fault) → LeastFrom fs 0 0 r → LeastFault s fs v r
  unfolding LeastFrom
  least_of_all fs (Err x) l = (l.faulty, λ a b j k. l.clear a b (from_zero a b) j k)
    where
      from_zero : (a b : ℕ) → From 0 0 a b
      from_zero a b = dite (dec_lt 0 a) later (λ n. along (omega arith) (omega arith))
  least_of_all fs (Ok _) l = λ a b k. l a b (from_zero a b) k
    where
      from_zero : (a b : ℕ) → From 0 0 a b
      from_zero a b = dite (dec_lt 0 a) later (λ n. along (omega arith) (omega arith))

  -- law one_fault: a segment has one least fault
  same_place : (e c a b : ℕ) → (Before e c a b → ⊥) → (Before a b e c → ⊥) → (e ≡ a) × (c ≡ b)
  same_place e c a b n m =
      let p : e ≡ a = dite (dec_lt e a) (λ h. absurd (n (sooner h))) (λ h. dite (dec_lt a e) (λ k. absurd (m (sooner k))) (λ k. omega arith)) in
      (p, dite (dec_lt c b) (λ h. absurd (n (beside p h))) (λ h. dite (dec_lt b c) (λ k. absurd (m (beside (sym p) k))) (λ k. omega arith)))

  pub one_fault : (fs : List Field) (x y : Result (Unit {0}) Fault) → LeastFault s fs v x → LeastFault s fs v y → x ≡ y
  one_fault fs (Err x) (Err y) l m =
      let p = same_place x.element x.component y.element y.component (λ h. m.1 x.element x.component h l.0) (λ h. l.1 y.element y.component h m.0) in
      ap₂ at_fault p.0 p.1
  one_fault fs (Err x) (Ok _) l m = absurd (m x.element x.component l.0)
  one_fault fs (Ok _) (Err y) l m = absurd (l y.element y.component m.0)
  one_fault fs (Ok _) (Ok _) l m = refl
