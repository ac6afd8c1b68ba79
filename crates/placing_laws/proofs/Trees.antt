-- Placement trees as the walk meets them: each child may come where it comes.
use Prim.Native.Nat.{ℕ, suc, ◌+◌, ◌≤◌, ◌<◌}
use native.Mathlib.Omega.{arith}
use mathlib.Core.Path.{◌≡◌, refl, ap, ◌∙◌, subst}
use mathlib.Core.List.{List, ◌∷◌, ◌++◌}
use mathlib.Core.Bool.{Bool, true, false, cond}
use lib.Dec.{eqb}
use lib.ListN.{length}
use borrow.Author.Tests.{eq-eqb, ne_eqb, eqb-true, eqb-false}
use Rattle.guide.specs.meaning.Plan.{Plan, station, Of}
use Rattle.placing.specs.meaning.Placement.{Contents, nothing, segment, instance, homes, size, count, UpTo, Counted, Runs}

-- ---- the homes of a tree

pub homes_append : (ks : Contents) (xs rest : List ℕ) → homes ks (xs ++ rest) ≡ homes ks xs ++ rest
unfolding homes
homes_append nothing xs rest = refl
homes_append (segment ks l) xs rest = homes_append ks (l ∷ xs) rest
homes_append (instance ks g inner) xs rest =
    ap (λ (x : List ℕ). homes ks (suc g ∷ x)) (homes_append inner xs rest) ∙ homes_append ks (suc g ∷ homes inner xs) rest

pub homes_length : (ks : Contents) (rest : List ℕ) → length (homes ks rest) ≡ size ks + length rest
unfolding homes size
homes_length nothing rest = omega arith
homes_length (segment ks l) rest = homes_length ks (l ∷ rest) ∙ omega arith
homes_length (instance ks g inner) rest = homes_length ks (suc g ∷ homes inner rest) ∙ (let e = homes_length inner rest in omega arith)

-- ---- counting

-- one more
pub one_here : (m l n : ℕ) → m ≡ l → cond (eqb m l) 1 0 + n ≡ suc n
one_here m l n e = simp (eq-eqb m l e) (omega arith)

pub one_other : (m l n : ℕ) → (m ≡ l → ⊥) → cond (eqb m l) 1 0 + n ≡ n
one_other m l n e = simp (ne_eqb m l e) (omega arith)

pub data Same (m l : ℕ) : Type 0 where
  it : m ≡ l → ((n : ℕ) → cond (eqb m l) 1 0 + n ≡ suc n) → Same m l
  other : (m ≡ l → ⊥) → ((n : ℕ) → cond (eqb m l) 1 0 + n ≡ n) → Same m l

pub same : (m l : ℕ) → Same m l
same m l = go (eqb m l) refl
  where
    go : (t : Bool) → eqb m l ≡ t → Same m l
    go true e = it (eqb-true m l e) (λ n. one_here m l n (eqb-true m l e))
    go false e = other (eqb-false m l e) (λ n. one_other m l n (eqb-false m l e))

module _ (b : Plan) where
  -- line t may come next in an instance of p that holds ks
  pub record Next (p : ℕ) (ks : Contents) (t : ℕ) : Type 0 where
    pub of : Of b p t
    pub upto : UpTo b ks t
    pub room : count t ks < b.maximum t
    pub done : (l : ℕ) → Of b p l → b.required l ≡ true → station b l < station b t → 0 < count l ks

  -- nothing required is missing
  abbrev pub Full : ℕ → Contents → Type 0
  Full p ks = (l : ℕ) → Of b p l → b.required l ≡ true → 0 < count l ks

  -- each child might come where it came, and each instance is complete
  abbrev pub Good : ℕ → Contents → Type 0
  Good p nothing = Unit {0}
  Good p (segment ks l) = Good p ks × (b.group l ≡ false) × Next p ks l
  Good p (instance ks g inner) = Good p ks × (b.group g ≡ true) × Next p ks g × Good g inner × Full g inner

  -- the same, but the last instance may still be open
  abbrev pub Open : ℕ → Contents → Type 0
  Open p nothing = Unit {0}
  Open p (segment ks l) = Good p ks × (b.group l ≡ false) × Next p ks l
  Open p (instance ks g inner) = Good p ks × (b.group g ≡ true) × Next p ks g × Open g inner

  pub good_open : (p : ℕ) (ks : Contents) → Good p ks → Open p ks
  good_open p nothing g = tt
  good_open p (segment ks l) g = g
  good_open p (instance ks x inner) g = (g.0, g.1, g.2, good_open x inner g.3)

  -- from counts to steps
  abbrev Bounded : ℕ → Contents → Type 0
  Bounded p ks = (l : ℕ) → Of b p l → count l ks ≤ b.maximum l

  -- every required line of which `before` holds is there
  abbrev Done : ℕ → Contents → (ℕ → Type 0) → Type 0
  Done p ks before = (l : ℕ) → Of b p l → b.required l ≡ true → before l → 0 < count l ks

  abbrev Behind : ℕ → ℕ → Type 0
  Behind m l = station b l < station b m

  -- the step over one child m
  next_of : (p : ℕ) (ks : Contents) (m : ℕ) (before : ℕ → Type 0) → Of b p m → UpTo b ks m → ((l : ℕ) → Behind m l → before l)
      → ((l : ℕ) → Of b p l → cond (eqb m l) 1 0 + count l ks ≤ b.maximum l)
      → ((l : ℕ) → Of b p l → b.required l ≡ true → before l → 0 < cond (eqb m l) 1 0 + count l ks)
      → Next p ks m × Bounded p ks
  next_of p ks m before o u k bound done = (
    record {
      of = o;
      upto = u;
      room = let h = bound m o in let e = one_here m m (count m ks) refl in omega arith;
      done = λ l q r i. let h = done l q r (k l i) in let e = one_other m l (count l ks) (λ z. let y = ap (station b) z in omega arith) in omega arith;
    },
    λ l q. let h = bound l q in omega arith,
  )

  -- what is there is a line of p
  pub runs_of : (p : ℕ) (ks : Contents) → Runs b p ks → (l : ℕ) → 0 < count l ks → Of b p l
  unfolding count
  runs_of p nothing r l h = absurd (omega arith)
  runs_of p (segment ks m) r l h = go (runs_of p ks r.0 l) (same m l)
    where
      go : (0 < count l ks → Of b p l) → Same m l → Of b p l
      go ih (it e f) = subst (λ (x : ℕ). Of b p x) e r.1
      go ih (other e f) = ih (let k = f (count l ks) in omega arith)
  runs_of p (instance ks m inner) r l h = go (runs_of p ks r.0 l) (same m l)
    where
      go : (0 < count l ks → Of b p l) → Same m l → Of b p l
      go ih (it e f) = subst (λ (x : ℕ). Of b p x) e r.1
      go ih (other e f) = ih (let k = f (count l ks) in omega arith)

  pub runs_good : (p : ℕ) (ks : Contents) (before : ℕ → Type 0) → Runs b p ks → ((m : ℕ) → 0 < count m ks → (l : ℕ) → Behind m l → before l)
      → Bounded p ks → Done p ks before → Good p ks
  unfolding count
  runs_good p nothing before r u bound done = tt
  runs_good p (segment ks m) before r u bound done =
      let h = next_of p ks m before r.1 r.3 (u m (let e = one_here m m (count m ks) refl in omega arith)) bound done in
      (runs_good p ks (Behind m) r.0 (λ x i l j. let k = r.3 x i in omega arith) h.1 h.0.done, r.2, h.0)
  runs_good p (instance ks m inner) before r u bound done =
      let h = next_of p ks m before r.1 r.3 (u m (let e = one_here m m (count m ks) refl in omega arith)) bound done in (
        runs_good p ks (Behind m) r.0 (λ x i l j. let k = r.3 x i in omega arith) h.1 h.0.done,
        r.2,
        h.0,
        runs_good m inner (λ _. Unit {0}) r.4 (λ _ _ _ _. tt) (λ l q. (r.5 l q).0) (λ l q z _. (r.5 l q).1 z),
        λ l q z. (r.5 l q).1 z,
      )

  -- from steps to counts
  pub bounded : (p : ℕ) (ks : Contents) → Good p ks → Bounded p ks
  unfolding count
  bounded p nothing g l o = omega arith
  bounded p (segment ks m) g l o = go (bounded p ks g.0 l o) (same m l)
    where
      go : count l ks ≤ b.maximum l → Same m l → cond (eqb m l) 1 0 + count l ks ≤ b.maximum l
      go ih (it e f) = rw f (subst (λ (x : ℕ). count x ks < b.maximum x) e g.2.room)
      go ih (other e f) = rw f ih
  bounded p (instance ks m inner) g l o = go (bounded p ks g.0 l o) (same m l)
    where
      go : count l ks ≤ b.maximum l → Same m l → cond (eqb m l) 1 0 + count l ks ≤ b.maximum l
      go ih (it e f) = rw f (subst (λ (x : ℕ). count x ks < b.maximum x) e g.2.room)
      go ih (other e f) = rw f ih

  pub good_runs : (p : ℕ) (ks : Contents) → Good p ks → Runs b p ks
  good_runs p nothing g = tt
  good_runs p (segment ks m) g = (good_runs p ks g.0, g.2.of, g.1, g.2.upto)
  good_runs p (instance ks m inner) g =
      (good_runs p ks g.0, g.2.of, g.1, g.2.upto, good_runs m inner g.3, λ l o. (bounded m inner g.3 l o, g.4 l o))

  pub valid_good : (ks : Contents) (p : ℕ) → Runs b p ks → Counted b p ks → Good p ks × Full p ks
  valid_good ks p r c =
      (runs_good p ks (λ _. Unit {0}) r (λ _ _ _ _. tt) (λ l o. (c l o).0) (λ l o q _. (c l o).1 q), λ l o q. (c l o).1 q)

  pub good_valid : (ks : Contents) (p : ℕ) → Good p ks → Full p ks → Counted b p ks
  good_valid ks p g f l o = (bounded p ks g l o, f l o)
