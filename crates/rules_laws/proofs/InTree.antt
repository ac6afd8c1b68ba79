-- The placement tree as the lists of homes and parents show it. Its instances are those that the lists give, each by its trigger's
-- number; and a line is among what an instance holds exactly if a segment that shows the line hangs under the instance's trigger.
use Prim.Native.Nat.{ℕ, zero, suc, ◌+◌, ◌≤◌, ◌<◌}
use native.Mathlib.Omega.{arith}
use mathlib.Core.Path.{◌≡◌, refl, sym, ap, ◌∙◌, subst}
use mathlib.Core.Logic.{◌⊎◌, inl, inr}
use mathlib.Core.List.{List, [], ◌∷◌}
use mathlib.Core.Bool.{Bool, true, false, not, cond, ◌&&◌, true≢false}
use lib.Dec.{eqb, leb}
use borrow.Author.Tests.{eqb-true, eqb-false, le-leb, lt-leb}
use Rattle.reading.specs.meaning.Service.{All}
use Rattle.guide.specs.meaning.Plan.{Plan, Of, is_trigger}
use Rattle.guide.specs.method.Targets.{target}
use Rattle.placing.specs.meaning.Placement.{Contents, nothing, segment, instance, homes, homes_of, size, count, Counted, Runs, parents, parents_of}
use Rattle.placing_laws.proofs.Structured.{Structured}
use Rattle.placing_laws.proofs.Trees.{Same, it, other, same}
use Rattle.placing_laws.proofs.Walks.{home_for, home_for-trigger, home_for-target}
use Rattle.rules.specs.meaning.Instances.{segments_of, instances_of, shown_by, first_in, is_present}
use Rattle.rules_laws.specs.meaning.OnTree.{has_line}
use Rattle.rules_laws.proofs.Lines.{sign_target}

-- ---- instances in the tree

-- among these contents, before which k segments stand: an instance of group o with trigger t, which holds x
abbrev pub Inside : ℕ → Contents → ℕ → ℕ → Contents → Type 0
Inside k nothing o t x = ⊥
Inside k (segment ks l) o t x = Inside k ks o t x
Inside k (instance ks g inner) o t x =
    Inside k ks o t x ⊎ (((g ≡ o) × (suc (k + size ks) ≡ t) × (inner ≡ x)) ⊎ Inside (suc (k + size ks)) inner o t x)

-- in a message; the message itself is the one instance of line 0
abbrev pub InTree : Contents → ℕ → ℕ → Contents → Type 0
InTree tree zero t x = (t ≡ 0) × (tree ≡ x)
InTree tree (suc g) t x = Inside 0 tree (suc g) t x

-- its trigger is one of the segments of these contents
inside_range : (ks : Contents) (k o t : ℕ) (x : Contents) → Inside k ks o t x → (k < t) × (t ≤ k + size ks)
unfolding size
inside_range nothing k o t x i = absurd i
inside_range (segment ks l) k o t x i = let r = inside_range ks k o t x i in (r.0, omega arith)
inside_range (instance ks g inner) k o t x (inl i) = let r = inside_range ks k o t x i in (r.0, omega arith)
inside_range (instance ks g inner) k o t x (inr (inl e)) = let q = e.1 in (omega arith, omega arith)
inside_range (instance ks g inner) k o t x (inr (inr i)) =
    let r = inside_range inner (suc (k + size ks)) o t x i in (omega arith, omega arith)

-- it is an instance of a group, and what it holds is allowed in it
pub inside_runs : (b : Plan) (p : ℕ) (ks : Contents) → Runs b p ks → (k o t : ℕ) (x : Contents) → Inside k ks o t x
    → (q : ℕ) × Of b q o × (b.group o ≡ true) × Counted b o x
inside_runs b p nothing r k o t x i = absurd i
inside_runs b p (segment ks l) r k o t x i = inside_runs b p ks r.0 k o t x i
inside_runs b p (instance ks g inner) r k o t x (inl i) = inside_runs b p ks r.0 k o t x i
inside_runs b p (instance ks g inner) r k o t x (inr (inl e)) =
    subst (λ (n : ℕ). (q : ℕ) × Of b q n × (b.group n ≡ true) × Counted b n x) e.0 (p, r.1, r.2, subst (λ (y : Contents). Counted b g y) e.2 r.5)
inside_runs b p (instance ks g inner) r k o t x (inr (inr i)) = inside_runs b g inner r.4 (suc (k + size ks)) o t x i

pub counted_in : (b : Plan) (tree : Contents) → Runs b 0 tree → Counted b 0 tree → (o t : ℕ) (x : Contents) → InTree tree o t x → Counted b o x
counted_in b tree r c zero t x i = subst (λ (y : Contents). Counted b 0 y) i.1 c
counted_in b tree r c (suc g) t x i = (inside_runs b 0 tree r 0 (suc g) t x i).3

pub trigger_in : (tree : Contents) (o t : ℕ) (x : Contents) → 0 < o → InTree tree o t x → 0 < t
trigger_in tree zero t x h i = absurd (omega arith)
trigger_in tree (suc g) t x h i = (inside_range tree 0 (suc g) t x i).0

-- ---- they are those that the homes give

module _ (P : ℕ → Type 0) (h : ℕ) where
  -- of each segment of home h, where the first of these has number j
  abbrev EachOf : ℕ → List ℕ → Type 0
  EachOf j [] = Unit {0}
  EachOf j (x ∷ hs) = (x ≡ h → P j) × EachOf (suc j) hs

  each_of : (j : ℕ) (hs : List ℕ) → All P (segments_of h j hs) → EachOf j hs
  unfolding segments_of
  each_of j [] a = tt
  each_of j (x ∷ hs) a = go (eqb x h) refl a (each_of (suc j) hs)
    where
      go : (t : Bool) → eqb x h ≡ t → All P (cond t (j ∷ segments_of h (suc j) hs) (segments_of h (suc j) hs))
          → (All P (segments_of h (suc j) hs) → EachOf (suc j) hs) → (x ≡ h → P j) × EachOf (suc j) hs
      go true e a ih = (λ _. a.0, ih a.1)
      go false e a ih = (λ q. absurd (eqb-false x h e q), ih a)

  of_each : (j : ℕ) (hs : List ℕ) → EachOf j hs → All P (segments_of h j hs)
  unfolding segments_of
  of_each j [] a = tt
  of_each j (x ∷ hs) a = go (eqb x h) refl (of_each (suc j) hs a.1)
    where
      go : (t : Bool) → eqb x h ≡ t → All P (segments_of h (suc j) hs) → All P (cond t (j ∷ segments_of h (suc j) hs) (segments_of h (suc j) hs))
      go true e r = (a.0 (eqb-true x h e), r)
      go false e r = r

  -- of those behind some contents
  each_behind : (ks : Contents) (k : ℕ) (hs : List ℕ) → EachOf (suc k) (homes ks hs) → EachOf (suc (k + size ks)) hs
  unfolding homes size
  each_behind nothing k hs a = subst (λ (n : ℕ). EachOf (suc n) hs) (omega arith) a
  each_behind (segment ks l) k hs a = subst (λ (n : ℕ). EachOf (suc n) hs) (omega arith) (each_behind ks k (l ∷ hs) a).1
  each_behind (instance ks g inner) k hs a =
      subst (λ (n : ℕ). EachOf (suc n) hs) (omega arith) (each_behind inner (suc (k + size ks)) hs (each_behind ks k (suc g ∷ homes inner hs) a).1)

-- so of each instance of a group
of_inside : (P : ℕ → Type 0) (o t : ℕ) (x ks : Contents) (k : ℕ) (hs : List ℕ) → Inside k ks o t x → EachOf P (suc o) (suc k) (homes ks hs) → P t
unfolding homes
of_inside P o t x nothing k hs i a = absurd i
of_inside P o t x (segment ks l) k hs i a = of_inside P o t x ks k (l ∷ hs) i a
of_inside P o t x (instance ks g inner) k hs (inl i) a = of_inside P o t x ks k (suc g ∷ homes inner hs) i a
of_inside P o t x (instance ks g inner) k hs (inr (inl e)) a = subst P e.1 ((each_behind P (suc o) ks k (suc g ∷ homes inner hs) a).0 (ap suc e.0))
of_inside P o t x (instance ks g inner) k hs (inr (inr i)) a =
    of_inside P o t x inner (suc (k + size ks)) hs i (each_behind P (suc o) ks k (suc g ∷ homes inner hs) a).1

module _ (b : Plan) (s : Structured b) where
  no_trigger : (o : ℕ) → 0 < o → b.group o ≡ true → (p m : ℕ) → Of b p m → b.group m ≡ false → m ≡ suc o → ⊥
  no_trigger zero i grp p m q n e = omega arith
  no_trigger (suc z) i grp p m q n e = true≢false (sym grp ∙ sym (ap (is_trigger b) e) ∙ home_for-trigger b s p m false n q)

  each_inside : (P : ℕ → Type 0) (o : ℕ) → 0 < o → b.group o ≡ true → (p : ℕ) (ks : Contents) → Runs b p ks → (k : ℕ) (hs : List ℕ)
      → ((t : ℕ) (x : Contents) → Inside k ks o t x → P t) → EachOf P (suc o) (suc (k + size ks)) hs → EachOf P (suc o) (suc k) (homes ks hs)
  unfolding homes size
  each_inside P o pos grp p nothing r k hs f a = subst (λ (n : ℕ). EachOf P (suc o) (suc n) hs) (omega arith) a
  each_inside P o pos grp p (segment ks m) r k hs f a =
      each_inside P o pos grp p ks r.0 k (m ∷ hs) f
      (λ e. absurd (no_trigger o pos grp p m r.1 r.2 e), subst (λ (n : ℕ). EachOf P (suc o) (suc n) hs) (omega arith) a)
  each_inside P o pos grp p (instance ks g inner) r k hs f a =
      each_inside P o pos grp p ks r.0 k (suc g ∷ homes inner hs) (λ t x i. f t x (inl i)) (
        λ e. f (suc (k + size ks)) inner (inr (inl (let q : g ≡ o = omega arith in q, refl, refl))),
        each_inside P o pos grp g inner r.4 (suc (k + size ks)) hs (λ t x i. f t x (inr (inr i)))
            (subst (λ (n : ℕ). EachOf P (suc o) (suc n) hs) (omega arith) a),
      )

-- ---- a segment of home s under segment t

abbrev Has : ℕ → ℕ → List ℕ → List ℕ → Type 0
Has s t [] ps = ⊥
Has s t (h ∷ hs) [] = ⊥
Has s t (h ∷ hs) (p ∷ ps) = ((h ≡ s) × (p ≡ t)) ⊎ Has s t hs ps

has_first : (s t j : ℕ) (hs ps : List ℕ) → 0 < j → Has s t hs ps → first_in s t j hs ps ≡ 0 → ⊥
unfolding first_in
has_first s t j [] ps i h e = h
has_first s t j (x ∷ hs) [] i h e = h
has_first s t j (x ∷ hs) (p ∷ ps) i h e = go (eqb x s) refl (eqb p t) refl h e (has_first s t (suc j) hs ps (omega arith))
  where
    go : (b : Bool) → eqb x s ≡ b → (c : Bool) → eqb p t ≡ c → ((x ≡ s) × (p ≡ t)) ⊎ Has s t hs ps
        → cond (b && c) j (first_in s t (suc j) hs ps) ≡ 0 → (Has s t hs ps → first_in s t (suc j) hs ps ≡ 0 → ⊥) → ⊥
    go true u true v k z r = omega arith
    go true u false v (inl k) z r = eqb-false p t v k.1
    go true u false v (inr k) z r = r k z
    go false u c v (inl k) z r = eqb-false x s u k.0
    go false u c v (inr k) z r = r k z

first_has : (s t j : ℕ) (hs ps : List ℕ) → (first_in s t j hs ps ≡ 0 → ⊥) → Has s t hs ps
unfolding first_in
first_has s t j [] ps n = n refl
first_has s t j (x ∷ hs) [] n = n refl
first_has s t j (x ∷ hs) (p ∷ ps) n = go (eqb x s) refl (eqb p t) refl n (first_has s t (suc j) hs ps)
  where
    go : (b : Bool) → eqb x s ≡ b → (c : Bool) → eqb p t ≡ c → (cond (b && c) j (first_in s t (suc j) hs ps) ≡ 0 → ⊥)
        → ((first_in s t (suc j) hs ps ≡ 0 → ⊥) → Has s t hs ps) → ((x ≡ s) × (p ≡ t)) ⊎ Has s t hs ps
    go true u true v n r = inl (eqb-true x s u, eqb-true p t v)
    go true u false v n r = inr (r n)
    go false u c v n r = inr (r n)

-- what stands behind some contents
has_behind : (s t : ℕ) (ks : Contents) (up k : ℕ) (hs ps : List ℕ) → Has s t hs ps → Has s t (homes ks hs) (parents up k ks ps)
unfolding homes parents
has_behind s t nothing up k hs ps h = h
has_behind s t (segment ks m) up k hs ps h = has_behind s t ks up k (m ∷ hs) (up ∷ ps) (inr h)
has_behind s t (instance ks g inner) up k hs ps h =
    has_behind s t ks up k (suc g ∷ homes inner hs) (up ∷ parents (suc (k + size ks)) (suc (k + size ks)) inner ps)
    (inr (has_behind s t inner (suc (k + size ks)) (suc (k + size ks)) hs ps h))

-- what hangs neither under the same trigger as these contents nor under one of them stands behind them
has_elsewhere : (s t : ℕ) (ks : Contents) (up k : ℕ) (hs ps : List ℕ) → (t ≡ up → ⊥) → (k < t → t ≤ k + size ks → ⊥)
    → Has s t (homes ks hs) (parents up k ks ps) → Has s t hs ps
unfolding homes parents size
has_elsewhere s t nothing up k hs ps n f h = h
has_elsewhere s t (segment ks m) up k hs ps n f h = go (has_elsewhere s t ks up k (m ∷ hs) (up ∷ ps) n (λ i j. f i (omega arith)) h)
  where
    go : ((m ≡ s) × (up ≡ t)) ⊎ Has s t hs ps → Has s t hs ps
    go (inl e) = absurd (n (sym e.1))
    go (inr e) = e
has_elsewhere s t (instance ks g inner) up k hs ps n f h =
    go (has_elsewhere s t ks up k (suc g ∷ homes inner hs) (up ∷ parents (suc (k + size ks)) (suc (k + size ks)) inner ps) n (λ i j. f i (omega arith)) h)
    (has_elsewhere s t inner (suc (k + size ks)) (suc (k + size ks)) hs ps (λ e. f (omega arith) (omega arith)) (λ i j. f (omega arith) (omega arith)))
  where
    go : ((suc g ≡ s) × (up ≡ t)) ⊎ Has s t (homes inner hs) (parents (suc (k + size ks)) (suc (k + size ks)) inner ps)
        → (Has s t (homes inner hs) (parents (suc (k + size ks)) (suc (k + size ks)) inner ps) → Has s t hs ps) → Has s t hs ps
    go (inl e) r = absurd (n (sym e.1))
    go (inr e) r = r e

-- ---- a line that is no trigger

module _ (b : Plan) (s : Structured b) (l : ℕ) (from : 1 ≤ l) (plain : is_trigger b l ≡ false) where
  -- a home shows the line that it stands for, and no other
  shows : (p m : ℕ) (e : Bool) → b.group m ≡ e → Of b p m → home_for b s e m ≡ shown_by b l → m ≡ l
  shows p m e k o q = sym (home_for-target b s p m e k o) ∙ ap (target b) q ∙ sign_target b s l from plain

  shown : (m : ℕ) (e : Bool) → b.group m ≡ e → m ≡ l → home_for b s e m ≡ shown_by b l
  shown m false k e = e ∙ sym (ap (λ (t : Bool). cond t (suc l) l) (subst (λ (x : ℕ). b.group x ≡ false) e k))
  shown m true k e = ap suc e ∙ sym (ap (λ (t : Bool). cond t (suc l) l) (subst (λ (x : ℕ). b.group x ≡ true) e k))

  -- what an instance holds of the line hangs under its trigger
  has_child : (p : ℕ) (ks : Contents) → Runs b p ks → 0 < count l ks → (up k : ℕ) (hs ps : List ℕ) → Has (shown_by b l) up (homes ks hs) (parents up k ks ps)
  unfolding homes parents count
  has_child p nothing r h up k hs ps = absurd (omega arith)
  has_child p (segment ks m) r h up k hs ps = go (same m l) (λ i. has_child p ks r.0 i up k (m ∷ hs) (up ∷ ps))
    where
      go : Same m l → (0 < count l ks → Has (shown_by b l) up (homes ks (m ∷ hs)) (parents up k ks (up ∷ ps))) → Has (shown_by b l) up (homes ks (m ∷ hs)) (parents up k ks (up ∷ ps))
      go (it e f) ih = has_behind (shown_by b l) up ks up k (m ∷ hs) (up ∷ ps) (inl (shown m false r.2 e, refl))
      go (other e f) ih = ih (let z = f (count l ks) in omega arith)
  has_child p (instance ks g inner) r h up k hs ps =
      go (same g l) (λ i. has_child p ks r.0 i up k (suc g ∷ homes inner hs) (up ∷ parents (suc (k + size ks)) (suc (k + size ks)) inner ps))
    where
      rest : List ℕ
      rest = suc g ∷ homes inner hs

      above : List ℕ
      above = up ∷ parents (suc (k + size ks)) (suc (k + size ks)) inner ps

      go : Same g l → (0 < count l ks → Has (shown_by b l) up (homes ks rest) (parents up k ks above)) → Has (shown_by b l) up (homes ks rest) (parents up k ks above)
      go (it e f) ih = has_behind (shown_by b l) up ks up k rest above (inl (shown g true r.2 e, refl))
      go (other e f) ih = ih (let z = f (count l ks) in omega arith)

  -- and nothing else does
  child_has : (p : ℕ) (ks : Contents) → Runs b p ks → (up k : ℕ) (hs ps : List ℕ) → up ≤ k → Has (shown_by b l) up (homes ks hs) (parents up k ks ps)
      → (0 < count l ks) ⊎ Has (shown_by b l) up hs ps
  unfolding homes parents count
  child_has p nothing r up k hs ps i h = inr h
  child_has p (segment ks m) r up k hs ps i h = go (child_has p ks r.0 up k (m ∷ hs) (up ∷ ps) i h) (same m l)
    where
      go : (0 < count l ks) ⊎ (((m ≡ shown_by b l) × (up ≡ up)) ⊎ Has (shown_by b l) up hs ps) → Same m l
          → (0 < cond (eqb m l) 1 0 + count l ks) ⊎ Has (shown_by b l) up hs ps
      go (inl c) d = inl (omega arith)
      go (inr (inl c)) (it e f) = inl (let z = f (count l ks) in omega arith)
      go (inr (inl c)) (other e f) = absurd (e (shows p m false r.2 r.1 c.0))
      go (inr (inr c)) d = inr c
  child_has p (instance ks g inner) r up k hs ps i h =
      go (child_has p ks r.0 up k (suc g ∷ homes inner hs) (up ∷ parents (suc (k + size ks)) (suc (k + size ks)) inner ps) i h) (same g l)
    where
      go : (0 < count l ks) ⊎ (((suc g ≡ shown_by b l) × (up ≡ up)) ⊎ Has (shown_by b l) up (homes inner hs) (parents (suc (k + size ks)) (suc (k + size ks)) inner ps))
          → Same g l → (0 < cond (eqb g l) 1 0 + count l ks) ⊎ Has (shown_by b l) up hs ps
      go (inl c) d = inl (omega arith)
      go (inr (inl c)) (it e f) = inl (let z = f (count l ks) in omega arith)
      go (inr (inl c)) (other e f) = absurd (e (shows p g true r.2 r.1 c.0))
      go (inr (inr c)) d =
          inr (has_elsewhere (shown_by b l) up inner (suc (k + size ks)) (suc (k + size ks)) hs ps (λ e. omega arith) (λ u v. omega arith) c)

  -- the same of any instance among some contents
  has_inside : (p : ℕ) (ks : Contents) → Runs b p ks → (up k : ℕ) (hs ps : List ℕ) (o t : ℕ) (x : Contents) → Inside k ks o t x → 0 < count l x
      → Has (shown_by b l) t (homes ks hs) (parents up k ks ps)
  unfolding homes parents
  has_inside p nothing r up k hs ps o t x i c = absurd i
  has_inside p (segment ks m) r up k hs ps o t x i c = has_inside p ks r.0 up k (m ∷ hs) (up ∷ ps) o t x i c
  has_inside p (instance ks g inner) r up k hs ps o t x (inl i) c =
      has_inside p ks r.0 up k (suc g ∷ homes inner hs) (up ∷ parents (suc (k + size ks)) (suc (k + size ks)) inner ps) o t x i c
  has_inside p (instance ks g inner) r up k hs ps o t x (inr (inl e)) c =
      let n = suc (k + size ks) in
      has_behind (shown_by b l) t ks up k (suc g ∷ homes inner hs) (up ∷ parents n n inner ps)
      (inr (subst (λ (y : ℕ). Has (shown_by b l) y (homes inner hs) (parents n n inner ps)) e.1
      (has_child g inner r.4 (subst (λ (y : Contents). 0 < count l y) (sym e.2) c) n n hs ps)))
  has_inside p (instance ks g inner) r up k hs ps o t x (inr (inr i)) c =
      let n = suc (k + size ks) in
      has_behind (shown_by b l) t ks up k (suc g ∷ homes inner hs) (up ∷ parents n n inner ps) (inr (has_inside g inner r.4 n n hs ps o t x i c))

  inside_has : (p : ℕ) (ks : Contents) → Runs b p ks → (up k : ℕ) (hs ps : List ℕ) → up ≤ k → (o t : ℕ) (x : Contents) → Inside k ks o t x
      → Has (shown_by b l) t (homes ks hs) (parents up k ks ps) → (0 < count l x) ⊎ Has (shown_by b l) t hs ps
  unfolding homes parents
  inside_has p nothing r up k hs ps j o t x i h = absurd i
  inside_has p (segment ks m) r up k hs ps j o t x i h = go (inside_has p ks r.0 up k (m ∷ hs) (up ∷ ps) j o t x i h)
    where
      go : (0 < count l x) ⊎ (((m ≡ shown_by b l) × (up ≡ t)) ⊎ Has (shown_by b l) t hs ps) → (0 < count l x) ⊎ Has (shown_by b l) t hs ps
      go (inl c) = inl c
      go (inr (inl c)) = let q = c.1 in let z = inside_range ks k o t x i in absurd (omega arith)
      go (inr (inr c)) = inr c
  inside_has p (instance ks g inner) r up k hs ps j o t x i h =
      go i (inside_has p ks r.0 up k rest above j o t x) (inside_has g inner r.4 n n hs ps (omega arith) o t x)
    where
      n : ℕ
      n = suc (k + size ks)

      rest : List ℕ
      rest = suc g ∷ homes inner hs

      above : List ℕ
      above = up ∷ parents n n inner ps

      -- under a trigger behind ks, and so inside
      behind : k + size ks < t → Has (shown_by b l) t (homes inner hs) (parents n n inner ps)
      behind u = at (has_elsewhere (shown_by b l) t ks up k rest above (λ e. omega arith) (λ v w. omega arith) h)
        where
          at : ((suc g ≡ shown_by b l) × (up ≡ t)) ⊎ Has (shown_by b l) t (homes inner hs) (parents n n inner ps) → Has (shown_by b l) t (homes inner hs) (parents n n inner ps)
          at (inl c) = let q = c.1 in absurd (omega arith)
          at (inr c) = c

      go : Inside k ks o t x ⊎ (((g ≡ o) × (n ≡ t) × (inner ≡ x)) ⊎ Inside n inner o t x)
          → (Inside k ks o t x → Has (shown_by b l) t (homes ks rest) (parents up k ks above) → (0 < count l x) ⊎ Has (shown_by b l) t rest above)
          → (Inside n inner o t x → Has (shown_by b l) t (homes inner hs) (parents n n inner ps) → (0 < count l x) ⊎ Has (shown_by b l) t hs ps)
          → (0 < count l x) ⊎ Has (shown_by b l) t hs ps
      go (inl i) ih again = at (ih i h)
        where
          at : (0 < count l x) ⊎ (((suc g ≡ shown_by b l) × (up ≡ t)) ⊎ Has (shown_by b l) t (homes inner hs) (parents n n inner ps)) → (0 < count l x) ⊎ Has (shown_by b l) t hs ps
          at (inl c) = inl c
          at (inr (inl c)) = let q = c.1 in let z = inside_range ks k o t x i in absurd (omega arith)
          at (inr (inr c)) =
              let z = inside_range ks k o t x i in
              inr (has_elsewhere (shown_by b l) t inner n n hs ps (λ e. omega arith) (λ u v. omega arith) c)
      go (inr (inl e)) ih again =
          let q = e.1 in
          at (child_has g inner r.4 n n hs ps (omega arith) (subst (λ (y : ℕ). Has (shown_by b l) y (homes inner hs) (parents n n inner ps)) (sym q) (behind (omega arith))))
        where
          at : (0 < count l inner) ⊎ Has (shown_by b l) n hs ps → (0 < count l x) ⊎ Has (shown_by b l) t hs ps
          at (inl c) = inl (subst (λ (y : Contents). 0 < count l y) e.2 c)
          at (inr c) = inr (subst (λ (y : ℕ). Has (shown_by b l) y hs ps) e.1 c)
      go (inr (inr i)) ih again = let z = inside_range inner n o t x i in again i (behind (omega arith))

-- ---- the laws

module _ (b : Plan) (s : Structured b) (tree : Contents) (runs : Runs b 0 tree) where
  -- the lists give every instance of the tree
  pub of_instances : (P : ℕ → Type 0) (o t : ℕ) (x : Contents) → InTree tree o t x → All P (instances_of o (homes_of tree)) → P t
  of_instances P zero t x i a = subst P (sym i.0) a.0
  of_instances P (suc g) t x i a = of_inside P (suc g) t x tree 0 [] i (each_of P (suc (suc g)) 1 (homes_of tree) a)

  -- and no other
  pub each_instance : (P : ℕ → Type 0) (o : ℕ) → (0 < o → b.group o ≡ true) → ((t : ℕ) (x : Contents) → InTree tree o t x → P t) → All P (instances_of o (homes_of tree))
  each_instance P zero grp f = (f 0 tree (refl, refl), tt)
  each_instance P (suc g) grp f =
      of_each P (suc (suc g)) 1 (homes_of tree) (each_inside b s P (suc g) (omega arith) (grp (omega arith)) 0 tree runs 0 [] f tt)

  module _ (l : ℕ) (from : 1 ≤ l) (plain : is_trigger b l ≡ false) where
    -- a line's first segment in an instance
    abbrev seen : ℕ → ℕ
    seen t = first_in (shown_by b l) t 1 (homes_of tree) (parents_of tree)

    same_test : (m n : ℕ) → (0 < n → m ≡ 0 → ⊥) → ((m ≡ 0 → ⊥) → 0 < n) → not (eqb m 0) ≡ leb 1 n
    same_test m n f g = go (eqb m 0) refl
      where
        go : (t : Bool) → eqb m 0 ≡ t → not t ≡ leb 1 n
        go true e = sym (lt-leb 1 n (none n (λ c. f c (eqb-true m 0 e))))
          where
            none : (n : ℕ) → (0 < n → ⊥) → n < 1
            none zero h = omega arith
            none (suc n) h = absurd (h (omega arith))
        go false e = sym (le-leb 1 n (g (eqb-false m 0 e)))

    only : (A : Type 0) → A ⊎ ⊥ → A
    only A (inl a) = a
    only A (inr e) = absurd e

    has_all : (o t : ℕ) (x : Contents) → InTree tree o t x → 0 < count l x → Has (shown_by b l) t (homes_of tree) (parents_of tree)
    has_all zero t x i c =
        subst (λ (n : ℕ). Has (shown_by b l) n (homes_of tree) (parents_of tree)) (sym i.0)
        (has_child b s l from plain 0 tree runs (subst (λ (y : Contents). 0 < count l y) (sym i.1) c) 0 0 [] [])
    has_all (suc g) t x i c = has_inside b s l from plain 0 tree runs 0 0 [] [] (suc g) t x i c

    all_has : (o t : ℕ) (x : Contents) → InTree tree o t x → Has (shown_by b l) t (homes_of tree) (parents_of tree) → 0 < count l x
    all_has zero t x i h =
        subst (λ (y : Contents). 0 < count l y) i.1
        (only (0 < count l tree) (child_has b s l from plain 0 tree runs 0 0 [] [] (omega arith)
        (subst (λ (n : ℕ). Has (shown_by b l) n (homes_of tree) (parents_of tree)) i.0 h)))
    all_has (suc g) t x i h = only (0 < count l x) (inside_has b s l from plain 0 tree runs 0 0 [] [] (omega arith) (suc g) t x i h)

    -- 01: "A line is present there if it has at least one segment or instance."
    pub present_in : (o t : ℕ) (x : Contents) → InTree tree o t x → is_present (seen t) ≡ has_line l x
    present_in o t x i =
        same_test (seen t) (count l x) (λ c. has_first (shown_by b l) t 1 (homes_of tree) (parents_of tree) (omega arith) (has_all o t x i c))
        (λ n. all_has o t x i (first_has (shown_by b l) t 1 (homes_of tree) (parents_of tree) n))
