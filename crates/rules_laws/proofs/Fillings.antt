-- Laws some_filling and every_filling: `some` and `every` speak of all fillings, of tests that look at no other conditions than the
-- ones that are tried. A filling of a list is one of the list with its own value filled in, and the other way round; so trying
-- false and true for each unknown condition meets a filling that agrees, on all that the test looks at, with any given one.
-- And fillings as lists: each is told by one assignment, and each assignment that fills tells one.
use Prim.Native.Nat.{ℕ, zero, suc, ◌-◌, ◌<◌}
use native.Mathlib.Omega.{arith}
use mathlib.Core.Path.{◌≡◌, refl, sym, ap, ◌∙◌, fun_ext}
use mathlib.Core.List.{List, [], ◌∷◌}
use mathlib.Core.Bool.{Bool, true, false, not, cond, ◌||◌, true≢false, false≢true}
use mathlib.Core.Logic.{⊎_elim, ◌↔◌}
use lib.Dec.{eqb, ltb}
use lib.ListN.{length, get_or, set, get_or-eq_default}
use lib.Seq.{get_or-set_same, get_or-set_other}
use borrow.Author.Tests.{eq-eqb, ne_eqb, eqb-true, eqb-false, ltb-true, ltb-false, not-true, not-false}
use Rattle.rules.specs.meaning.Conditions.{Assignment, said, is_unknown, told, Filling, Chosen, Fills, Learned, Learns}
use Rattle.rules_laws.specs.laws.FirstFound.{filled, some, every}
use Rattle.reading.proofs.Booleans.{one_of, or_left, or_right}

-- two assignments that give these conditions the same values, and a test that looks at no others
abbrev pub Agree : List ℕ → Assignment → Assignment → Type 0
Agree [] a b = Unit {0}
Agree (k ∷ ks) a b = (a k ≡ b k) × Agree ks a b

abbrev pub LooksAt : List ℕ → (Assignment → Bool) → Type 0
LooksAt ks test = (a b : Assignment) → Agree ks a b → test a ≡ test b

-- ---- fillings as lists

-- a byte of a filled list
chosen_known : (t : Bool) (c f : ℕ) → Chosen t c f → t ≡ false → f ≡ c
chosen_known true c f h e = absurd (true≢false e)
chosen_known false c f h e = h

chosen_plain : (t : Bool) (c f : ℕ) → eqb c 2 ≡ t → Chosen t c f → eqb f 2 ≡ false
chosen_plain true c f e h = ne_eqb f 2 (omega arith)
chosen_plain false c f e h = rw h e

fills_at : (cs fs : List ℕ) → Fills cs fs → (j : ℕ) → Chosen (eqb (get_or cs j 0) 2) (get_or cs j 0) (get_or fs j 0)
fills_at [] [] h j = refl
fills_at [] (f ∷ fs) h j = absurd h
fills_at (c ∷ cs) [] h j = absurd h
fills_at (c ∷ cs) (f ∷ fs) h zero = h.0
fills_at (c ∷ cs) (f ∷ fs) h (suc j) = fills_at cs fs h.1 j

fills_said : (cs fs : List ℕ) → Fills cs fs → (k : ℕ) → Chosen (is_unknown cs k) (said cs k) (said fs k)
fills_said cs fs h zero = refl
fills_said cs fs h (suc j) = fills_at cs fs h j

-- a filled list is a filling, and knows all
pub filled_filling : (cs fs : List ℕ) → Fills cs fs → Filling cs (told fs)
filled_filling cs fs h k e = ap (λ (x : ℕ). eqb x 1) (chosen_known (is_unknown cs k) (said cs k) (said fs k) (fills_said cs fs h k) e)

pub filled_known : (cs fs : List ℕ) → Fills cs fs → (k : ℕ) → is_unknown fs k ≡ false
filled_known cs fs h k = chosen_plain (is_unknown cs k) (said cs k) (said fs k) refl (fills_said cs fs h k)

-- each filling is that of a filled list
unfoldable pub fill : Assignment → List ℕ → List ℕ
fill a [] = []
fill a (c ∷ cs) = cond (eqb c 2) (cond (a zero) 1 0) c ∷ fill (λ k. a (suc k)) cs

fill_byte : (t v : Bool) (c : ℕ) → eqb c 2 ≡ t → Chosen t c (cond t (cond v 1 0) c)
fill_byte true true c e = omega arith
fill_byte true false c e = omega arith
fill_byte false v c e = refl

pub fill_fills : (a : Assignment) (cs : List ℕ) → Fills cs (fill a cs)
unfolding fill
fill_fills a [] = tt
fill_fills a (c ∷ cs) = (fill_byte (eqb c 2) (a zero) c refl, fill_fills (λ k. a (suc k)) cs)

fill_told_byte : (t v : Bool) (c : ℕ) → (t ≡ false → v ≡ eqb c 1) → eqb (cond t (cond v 1 0) c) 1 ≡ v
fill_told_byte true true c h = refl
fill_told_byte true false c h = refl
fill_told_byte false v c h = sym (h refl)

fill_at : (a : Assignment) (cs : List ℕ) → ((i : ℕ) → eqb (get_or cs i 0) 2 ≡ false → a i ≡ eqb (get_or cs i 0) 1) → (i : ℕ) → eqb (get_or (fill a cs) i 0) 1 ≡ a i
unfolding fill
fill_at a [] h i = sym (h i refl)
fill_at a (c ∷ cs) h zero = fill_told_byte (eqb c 2) (a zero) c (h zero)
fill_at a (c ∷ cs) h (suc i) = fill_at (λ k. a (suc k)) cs (λ j. h (suc j)) i

abbrev pub filling_list : List ℕ → Assignment → List ℕ
filling_list cs a = fill (λ k. a (suc k)) cs

fill_said : (cs : List ℕ) (a : Assignment) → Filling cs a → (k : ℕ) → told (filling_list cs a) k ≡ a k
fill_said cs a h zero = sym (h zero refl)
fill_said cs a h (suc j) = fill_at (λ k. a (suc k)) cs (λ i. h (suc i)) j

pub fill_told : (cs : List ℕ) (a : Assignment) → Filling cs a → told (filling_list cs a) ≡ a
fill_told cs a h = fun_ext (fill_said cs a h)

-- what fills a list that knows more fills the list
learned_chosen : (t u : Bool) (c d f : ℕ) → eqb c 2 ≡ t → eqb d 2 ≡ u → Learned t c d → Chosen u d f → Chosen t c f
learned_chosen true true c d f p q h k = k
learned_chosen true false c d f p q h k = let ne : d ≡ 2 → ⊥ = λ (e : d ≡ 2). true≢false (sym (eq-eqb d 2 e) ∙ q) in omega arith
learned_chosen false true c d f p q h k = absurd (true≢false (sym q ∙ ap (λ (x : ℕ). eqb x 2) h ∙ p))
learned_chosen false false c d f p q h k = k ∙ h

pub learns_fills : (cs ds fs : List ℕ) → Learns cs ds → Fills ds fs → Fills cs fs
learns_fills [] [] [] h k = tt
learns_fills [] [] (f ∷ fs) h k = k
learns_fills [] (d ∷ ds) fs h k = absurd h
learns_fills (c ∷ cs) [] fs h k = absurd h
learns_fills (c ∷ cs) (d ∷ ds) [] h k = k
learns_fills (c ∷ cs) (d ∷ ds) (f ∷ fs) h k =
    (learned_chosen (eqb c 2) (eqb d 2) c d f refl refl h.0 k.0, learns_fills cs ds fs h.1 k.1)

-- ---- what `some` finds is a filling

unknown_set : (cs : List ℕ) (i : ℕ) → eqb (get_or cs i 0) 2 ≡ true → i < length cs
unknown_set cs i u = go (ltb i (length cs)) refl
  where
    go : (b : Bool) → ltb i (length cs) ≡ b → i < length cs
    go true e = ltb-true i (length cs) e
    go false e = let z : get_or cs i 0 ≡ 0 = get_or-eq_default cs 0 (ltb-false i (length cs) e) in let y = eqb-true (get_or cs i 0) 2 u in absurd (omega arith)

pred_suc : (i : ℕ) → suc i - 1 ≡ i
pred_suc i = omega arith

filled_same : (cs : List ℕ) (k v : ℕ) → is_unknown cs k ≡ true → said (filled cs k v) k ≡ v
filled_same cs zero v u = absurd (false≢true u)
filled_same cs (suc i) v u = ap (λ (j : ℕ). get_or (set cs j v) i 0) (pred_suc i) ∙ get_or-set_same cs i v 0 (unknown_set cs i u)

filled_other : (cs : List ℕ) (k j v : ℕ) → is_unknown cs k ≡ true → (j ≡ k → ⊥) → said (filled cs k v) j ≡ said cs j
filled_other cs zero j v u n = absurd (false≢true u)
filled_other cs (suc i) zero v u n = refl
filled_other cs (suc i) (suc j) v u n = ap (λ (m : ℕ). get_or (set cs m v) j 0) (pred_suc i) ∙ get_or-set_other cs i j v 0 (λ e. n (ap suc e))

abbrev bit : Bool → ℕ
bit true = 1
bit false = 0

bit_told : (v : Bool) → eqb (bit v) 1 ≡ v
bit_told true = refl
bit_told false = refl

bit_known : (v : Bool) → eqb (bit v) 2 ≡ false
bit_known true = refl
bit_known false = refl

-- a filling of the list with one unknown filled in is a filling of the list
filled_less : (cs : List ℕ) (k x : ℕ) (a : Assignment) → is_unknown cs k ≡ true → Filling (filled cs k x) a → Filling cs a
filled_less cs k x a u h j e =
    let g : said (filled cs k x) j ≡ said cs j = filled_other cs k j x u (λ q. true≢false (sym u ∙ ap (is_unknown cs) (sym q) ∙ e)) in
    h j (ap (λ (y : ℕ). eqb y 2) g ∙ e) ∙ ap (λ (y : ℕ). eqb y 1) g

-- and a filling is one of the list with its own value filled in
filled_more : (cs : List ℕ) (k : ℕ) (v : Bool) (a : Assignment) → is_unknown cs k ≡ true → a k ≡ v → Filling cs a → Filling (filled cs k (bit v)) a
filled_more cs k v a u w h j e = go (eqb j k) refl
  where
    go : (b : Bool) → eqb j k ≡ b → a j ≡ told (filled cs k (bit v)) j
    go true q =
        ap a (eqb-true j k q) ∙ w
        ∙ sym (ap (λ (y : ℕ). eqb y 1) (ap (said (filled cs k (bit v))) (eqb-true j k q) ∙ filled_same cs k (bit v) u) ∙ bit_told v)
    go false q =
        let g : said (filled cs k (bit v)) j ≡ said cs j = filled_other cs k j (bit v) u (eqb-false j k q) in
        h j (ap (λ (y : ℕ). eqb y 2) (sym g) ∙ e) ∙ ap (λ (y : ℕ). eqb y 1) (sym g)

pub record Witness (cs : List ℕ) (f : Assignment → Bool) (v : Bool) : Type 0 where
  pub a : Assignment
  pub filling : Filling cs a
  pub gives : f a ≡ v

less : (cs : List ℕ) (k x : ℕ) (f : Assignment → Bool) (v : Bool) → is_unknown cs k ≡ true → Witness (filled cs k x) f v → Witness cs f v
less cs k x f v u w = record { a = w.a; filling = filled_less cs k x w.a u w.filling; gives = w.gives }

pub some_is : (cs ks : List ℕ) (f : Assignment → Bool) → some cs ks f ≡ true → Witness cs f true
unfolding some
some_is cs [] f e = record { a = told cs; filling = λ k q. refl; gives = e }
some_is cs (k ∷ ks) f e = go (is_unknown cs k) refl e (some_is cs ks f) (some_is (filled cs k 0) ks f) (some_is (filled cs k 1) ks f)
  where
    go : (t : Bool) → is_unknown cs k ≡ t → cond t (some (filled cs k 0) ks f || some (filled cs k 1) ks f) (some cs ks f) ≡ true
        → (some cs ks f ≡ true → Witness cs f true)
        → (some (filled cs k 0) ks f ≡ true → Witness (filled cs k 0) f true)
        → (some (filled cs k 1) ks f ≡ true → Witness (filled cs k 1) f true)
        → Witness cs f true
    go true u h x y z =
        ⊎_elim (λ p. less cs k 0 f true u (y p)) (λ p. less cs k 1 f true u (z p)) (one_of (some (filled cs k 0) ks f) (some (filled cs k 1) ks f) h)
    go false u h x y z = x h

-- and where a filling passes, `some` finds one, if the test looks at no other conditions
abbrev pub Local : List ℕ → List ℕ → (Assignment → Bool) → Type 0
Local cs ks f = (a b : Assignment) → Filling cs a → Filling cs b → Agree ks a b → f a ≡ f b

local_filled : (cs ks : List ℕ) (k : ℕ) (v : Bool) (f : Assignment → Bool) → is_unknown cs k ≡ true → Local cs (k ∷ ks) f → Local (filled cs k (bit v)) ks f
local_filled cs ks k v f u l a b p q r =
    let n : is_unknown (filled cs k (bit v)) k ≡ false = ap (λ (y : ℕ). eqb y 2) (filled_same cs k (bit v) u) ∙ bit_known v in
    l a b (filled_less cs k (bit v) a u p) (filled_less cs k (bit v) b u q) (p k n ∙ sym (q k n), r)

local_known : (cs ks : List ℕ) (k : ℕ) (f : Assignment → Bool) → is_unknown cs k ≡ false → Local cs (k ∷ ks) f → Local cs ks f
local_known cs ks k f u h a b p q r = h a b p q (p k u ∙ sym (q k u), r)

pub some_has : (cs ks : List ℕ) (f : Assignment → Bool) (a : Assignment) → Filling cs a → Local cs ks f → f a ≡ true → some cs ks f ≡ true
unfolding some
some_has cs [] f a p l e = l (told cs) a (λ k q. refl) p tt ∙ e
some_has cs (k ∷ ks) f a p l e =
    go (is_unknown cs k) refl (λ h. some_has cs ks f a p h e) (λ x h. some_has (filled cs k 0) ks f a x h e) (λ x h. some_has (filled cs k 1) ks f a x h e)
  where
    go : (t : Bool) → is_unknown cs k ≡ t
        → (Local cs ks f → some cs ks f ≡ true)
        → (Filling (filled cs k 0) a → Local (filled cs k 0) ks f → some (filled cs k 0) ks f ≡ true)
        → (Filling (filled cs k 1) a → Local (filled cs k 1) ks f → some (filled cs k 1) ks f ≡ true)
        → cond t (some (filled cs k 0) ks f || some (filled cs k 1) ks f) (some cs ks f) ≡ true
    go false u x y z = x (local_known cs ks k f u l)
    go true u x y z = at (a k) refl
      where
        at : (v : Bool) → a k ≡ v → (some (filled cs k 0) ks f || some (filled cs k 1) ks f) ≡ true
        at false q = or_left (some (filled cs k 0) ks f) (some (filled cs k 1) ks f) (y (filled_more cs k false a u q p) (local_filled cs ks k false f u l))
        at true q = or_right (some (filled cs k 0) ks f) (some (filled cs k 1) ks f) (z (filled_more cs k true a u q p) (local_filled cs ks k true f u l))

pub some_not : (cs ks : List ℕ) (f : Assignment → Bool) (a : Assignment) → Filling cs a → Local cs ks f → some cs ks f ≡ false → f a ≡ false
some_not cs ks f a p l e = go (f a) refl
  where
    go : (v : Bool) → f a ≡ v → v ≡ false
    go true q = sym (some_has cs ks f a p l q) ∙ e
    go false q = refl

-- with nothing unknown there is one filling
pub some_known : (cs ks : List ℕ) (f : Assignment → Bool) → ((k : ℕ) → is_unknown cs k ≡ false) → some cs ks f ≡ f (told cs)
unfolding some
some_known cs [] f h = refl
some_known cs (k ∷ ks) f h = rw (h k) (some_known cs ks f h)

-- ---- the laws

pub some_filling : (cs ks : List ℕ) (test : Assignment → Bool) → LooksAt ks test
    → (some cs ks test ≡ true) ↔ ((a : Assignment) × Filling cs a × (test a ≡ true))
some_filling cs ks test l =
    (λ e. let w = some_is cs ks test e in (w.a, w.filling, w.gives), λ w. some_has cs ks test w.0 w.1 (λ a b p q r. l a b r) w.2)

pub every_filling : (cs ks : List ℕ) (test : Assignment → Bool) → LooksAt ks test
    → (every cs ks test ≡ true) ↔ ((a : Assignment) → Filling cs a → test a ≡ true)
every_filling cs ks test l = (
  λ e a p. not-false (test a) (some_not cs ks (λ b. not (test b)) a p other (not-true (some cs ks (λ b. not (test b))) e)),
  λ h. go (some cs ks (λ a. not (test a))) refl h,
)
  where
    other : Local cs ks (λ a. not (test a))
    other a b p q r = ap not (l a b r)

    go : (v : Bool) → some cs ks (λ a. not (test a)) ≡ v → ((a : Assignment) → Filling cs a → test a ≡ true) → not v ≡ true
    go false e h = refl
    go true e h =
        let w = some_is cs ks (λ a. not (test a)) e in
        absurd (true≢false (sym (h w.a w.filling) ∙ not-true (test w.a) w.gives))
