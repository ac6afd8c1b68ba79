-- A line of a good book and its parent: it is the parent's trigger or one of its further lines. Which segments open the parent's
-- instances, which show the line, and that these are the same only where the line is the trigger. After a segment line the depth
-- stays or falls, so the line before a line is its owner only if it is a group.
use Prim.Native.Nat.{ℕ, zero, suc, pred, ◌≤◌, ◌<◌}
use native.Mathlib.Omega.{arith}
use mathlib.Core.Path.{◌≡◌, refl, sym, ap, ◌∙◌, subst}
use mathlib.Core.List.{List, [], ◌∷◌}
use mathlib.Core.Bool.{Bool, true, false, cond, false≢true}
use lib.Dec.{ltb}
use borrow.Author.Tests.{lt-ltb, le-ltb, ltb-true, ltb-false}
use Rattle.guide.proofs.Depths.{line_deep}
use Rattle.guide.specs.meaning.Plan.{Plan, deep, opening, Of, is_trigger}
use Rattle.guide.specs.method.Targets.{target}
use Rattle.placing.specs.meaning.Placement.{Contents, nothing, segment, instance, homes, Runs, Placed}
use Rattle.guide.specs.meaning.Tree.{climb, owner}
use Rattle.placing_laws.proofs.Structured.{Structured}
use Rattle.placing_laws.proofs.Trees.{Same, it, other, same}
use Rattle.rules.specs.meaning.Instances.{shown_by}

climb_before : (b : Plan) (d x : ℕ) → 0 < x → climb b d x < x
unfolding climb
climb_before b d zero h = absurd (omega arith)
climb_before b d (suc zero) h = go (ltb (deep b 0) d)
  where
    go : (t : Bool) → cond t 0 0 < 1
    go true = omega arith
    go false = omega arith
climb_before b d (suc (suc x)) h = go (ltb (deep b (suc x)) d) (climb_before b d (suc x) (omega arith))
  where
    go : (t : Bool) → climb b d (suc x) < suc x → cond t (suc x) (climb b d (suc x)) < suc (suc x)
    go true i = omega arith
    go false i = omega arith

shown_from : (b : Plan) (l : ℕ) → l ≤ shown_by b l
shown_from b l = go (b.group l)
  where
    go : (t : Bool) → l ≤ cond t (suc l) l
    go true = omega arith
    go false = omega arith

opening_le : (p : ℕ) → opening p ≤ suc p
opening_le zero = omega arith
opening_le (suc p) = omega arith

module _ (b : Plan) (s : Structured b) where
  -- the owner of a line that is no trigger stands before the line before it
  pub owner_before : (l : ℕ) → 1 ≤ l → l ≤ b.lines → is_trigger b l ≡ false → opening (owner b l) < l
  unfolding climb
  owner_before zero i j n = absurd (omega arith)
  owner_before (suc zero) i j n = go (ltb (deep b 0) (deep b 1))
    where
      go : (t : Bool) → opening (cond t 0 0) < 1
      go true = omega arith
      go false = omega arith
  owner_before (suc (suc l)) i j n =
      let f = s.falls (suc l) (omega arith) j n in
      rw (le-ltb (deep b (suc l)) (deep b (suc (suc l))) (omega arith))
      (let c = climb_before b (deep b (suc (suc l))) (suc l) (omega arith) in
      let o = opening_le (climb b (deep b (suc (suc l))) (suc l)) in
      omega arith)

  -- so no segment both opens an instance of its parent and shows it
  pub apart : (l : ℕ) → 1 ≤ l → l ≤ b.lines → is_trigger b l ≡ false → opening (owner b l) ≡ shown_by b l → ⊥
  apart l i j n e = let x = owner_before l i j n in let y = shown_from b l in omega arith

  -- a trigger does
  pub together : (l : ℕ) → 1 ≤ l → l ≤ b.lines → is_trigger b l ≡ true → opening (owner b l) ≡ shown_by b l
  unfolding climb
  together zero i j t = absurd (false≢true t)
  together (suc zero) i j t = absurd (false≢true t)
  together (suc (suc g)) i j t =
      let u = s.trigger (suc g) (omega arith) (omega arith) t in
      let d = u.deeper in
      rw (lt-ltb (deep b (suc g)) (deep b (suc (suc g))) (omega arith), u.segment)

  -- and its parent is a group
  pub trigger_owner : (l : ℕ) → 1 ≤ l → l ≤ b.lines → is_trigger b l ≡ true → 0 < owner b l
  unfolding climb
  trigger_owner zero i j t = absurd (false≢true t)
  trigger_owner (suc zero) i j t = absurd (false≢true t)
  trigger_owner (suc (suc g)) i j t =
      let u = s.trigger (suc g) (omega arith) (omega arith) t in
      let d = u.deeper in
      rw (lt-ltb (deep b (suc g)) (deep b (suc (suc g))) (omega arith)) (omega arith)

  -- the group before it
  pub trigger_group : (g : ℕ) → suc (suc g) ≤ b.lines → b.group (suc g) ≡ true → owner b (suc (suc g)) ≡ suc g
  unfolding climb
  trigger_group g j t =
      let u = s.trigger (suc g) (omega arith) (omega arith) t in
      let d = u.deeper in
      rw (lt-ltb (deep b (suc g)) (deep b (suc (suc g))) (omega arith))

  -- the segments that show another line have its home or open its instances
  pub sign_target : (l : ℕ) → 1 ≤ l → is_trigger b l ≡ false → target b (shown_by b l) ≡ l
  unfolding target
  sign_target zero i n = absurd (omega arith)
  sign_target (suc l) i n = go (b.group (suc l)) refl
    where
      go : (t : Bool) → b.group (suc l) ≡ t
          → cond (is_trigger b (cond t (suc (suc l)) (suc l))) (pred (cond t (suc (suc l)) (suc l))) (cond t (suc (suc l)) (suc l)) ≡ suc l
      go true e = rw e
      go false e = rw n

-- ---- a line belongs to its owner

-- where a climb ends: before x, higher than d, with nothing so high between
record Climbed (b : Plan) (d x p : ℕ) : Type 0 where
  before : p < x
  higher : deep b p < d
  between : (y : ℕ) → p < y → y < x → d ≤ deep b y

climbed : (b : Plan) (d x : ℕ) → 0 < d → 0 < x → Climbed b d x (climb b d x)
unfolding climb
climbed b d zero h i = absurd (omega arith)
climbed b d (suc x) h i = go (ltb (deep b x) d) refl (climbed b d x h)
  where
    go : (t : Bool) → ltb (deep b x) d ≡ t → (0 < x → Climbed b d x (climb b d x)) → Climbed b d (suc x) (cond t x (climb b d x))
    go true e r = record { before = omega arith; higher = ltb-true (deep b x) d e; between = λ y j k. absurd (omega arith) }
    go false e r =
        let n = ltb-false (deep b x) d e in
        let c = r (pos x n) in
        record { before = (let z = c.before in omega arith); higher = c.higher; between = λ y j k. near y j k c n (same y x) }
      where
        pos : (z : ℕ) → d ≤ deep b z → 0 < z
        pos zero n = absurd (omega arith)
        pos (suc z) n = omega arith

        near : (y : ℕ) → climb b d x < y → y < suc x → Climbed b d x (climb b d x) → d ≤ deep b x → Same y x → d ≤ deep b y
        near y j k c n (it q f) = subst (λ (z : ℕ). d ≤ deep b z) (sym q) n
        near y j k c n (other q f) = c.between y j (omega arith)

module _ (b : Plan) (s : Structured b) where
  not-false : (t : Bool) → (t ≡ false → ⊥) → t ≡ true
  not-false true n = refl
  not-false false n = absurd (n refl)

  -- one deeper than its owner
  one_deeper : (l p : ℕ) → 1 ≤ l → l ≤ b.lines → Climbed b (deep b l) l p → deep b l ≡ suc (deep b p)
  one_deeper l p i j c = go (same (suc p) l) p refl
    where
      lt : p < l
      lt = c.before

      -- the line behind the owner is as deep as l or deeper, and so the owner is a group
      next : deep b l ≤ deep b (suc p)
      next = at (same (suc p) l)
        where
          at : Same (suc p) l → deep b l ≤ deep b (suc p)
          at (it e f) = let z : deep b (suc p) ≡ deep b l = ap (deep b) e in omega arith
          at (other e f) = c.between (suc p) (omega arith) (omega arith)

      go : Same (suc p) l → (q : ℕ) → p ≡ q → deep b l ≡ suc (deep b p)
      go x zero e =
          let n = next in
          let u : deep b (suc p) ≡ deep b 1 = ap (λ (z : ℕ). deep b (suc z)) e in
          let v : deep b 1 ≡ 1 = ap suc s.first.root in
          let w : deep b p ≡ 0 = ap (deep b) e in
          let h = c.higher in
          omega arith
      go x (suc q) e =
          let n = next in
          let h = c.higher in
          let u = line_deep b p (omega arith) in
          let grp : b.group p ≡ true = not-false (b.group p) (λ f. let y = s.falls p (omega arith) (omega arith) f in omega arith) in
          let t = (s.trigger p (omega arith) (omega arith) grp).deeper in
          omega arith

  pub of_owner : (l : ℕ) → 1 ≤ l → l ≤ b.lines → is_trigger b l ≡ false → Of b (owner b l) l
  of_owner l i j n =
      let c = climbed b (deep b l) l (let u = line_deep b l i in omega arith) (omega arith) in
      let h = c.higher in
      record {
        after = owner_before b s l i j n;
        within = j;
        deeper = one_deeper l (owner b l) i j c;
        inside = λ y x z. let k = c.between y x z in omega arith;
      }

  -- and its owner is a group
  owner_group : (o l : ℕ) → 0 < o → Of b o l → b.group o ≡ true
  owner_group o l h of =
      not-false (b.group o)
      (λ f. let z = behind-opening o h in
      let d = of.inside (suc o) (omega arith) (omega arith) in
      let u = line_deep b o h in
      let y = s.falls o h (omega arith) f in
      omega arith)
    where
      behind-opening : (o : ℕ) → 0 < o → opening o ≡ suc o
      behind-opening zero i = absurd (omega arith)
      behind-opening (suc g) i = refl

  -- whichever line it is
  pub group_owner : (l : ℕ) → 1 ≤ l → l ≤ b.lines → 0 < owner b l → b.group (owner b l) ≡ true
  group_owner l i j h = go (is_trigger b l) refl
    where
      opened : (l : ℕ) → l ≤ b.lines → is_trigger b l ≡ true → b.group (owner b l) ≡ true
      opened zero j e = absurd (false≢true e)
      opened (suc zero) j e = absurd (false≢true e)
      opened (suc (suc g)) j e = ap b.group (trigger_group b s g j e) ∙ e

      go : (t : Bool) → is_trigger b l ≡ t → b.group (owner b l) ≡ true
      go true e = opened l j e
      go false e = owner_group (owner b l) l h (of_owner l i j e)

-- ---- no home of a placed message is 0

abbrev pub Homed : List ℕ → Type 0
Homed [] = Unit {0}
Homed (h ∷ hs) = (h ≡ 0 → ⊥) × Homed hs

module _ (b : Plan) where
  homed_runs : (p : ℕ) (ks : Contents) → Runs b p ks → (rest : List ℕ) → Homed rest → Homed (homes ks rest)
  unfolding homes
  homed_runs p nothing r rest h = h
  homed_runs p (segment ks l) r rest h = homed_runs p ks r.0 (l ∷ rest) (λ e. let a = r.1.after in omega arith, h)
  homed_runs p (instance ks g inner) r rest h = homed_runs p ks r.0 (suc g ∷ homes inner rest) (λ e. omega arith, homed_runs g inner r.4 rest h)

  pub placed_homed : (hs : List ℕ) → Placed b hs → Homed hs
  placed_homed hs t = subst (λ (x : List ℕ). Homed x) t.same (homed_runs 0 t.tree t.runs [] tt)
