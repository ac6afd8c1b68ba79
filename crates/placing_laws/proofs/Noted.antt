-- Law tree: the parents that are written home by home are those of the placement tree.
use Prim.Native.Nat.{ℕ, suc, ◌+◌, ◌≤◌}
use native.Mathlib.Omega.{arith}
use mathlib.Core.Path.{◌≡◌, refl, sym, ap, ◌∙◌}
use mathlib.Core.List.{List, [], ◌∷◌}
use mathlib.Core.Bool.{Bool, true, false}
use lib.ListN.{length, get_or, set, length-set}
use lib.Seq.{get_or-set_same, get_or-set_other}
use Rattle.guide.specs.meaning.Plan.{Plan, deep, Of}
use Rattle.placing.specs.meaning.Placement.{Contents, nothing, segment, instance, homes, size, parents, parents_of, Runs, Placed}
use Rattle.placing.specs.method.Tree.{root_only, opened_by, noted, noted_parents}
use Rattle.placing_laws.proofs.Structured.{Structured}
use Rattle.placing_laws.proofs.Walks.{home_for, depth_of, home_for-trigger, home_for-target}

module _ (b : Plan) (s : Structured b) where
  -- the trail behind what an instance holds, where k segments stand before
  unfoldable trail_after : ℕ → List ℕ → Contents → List ℕ
  trail_after k trail nothing = trail
  trail_after k trail (segment ks l) = trail_after k trail ks
  trail_after k trail (instance ks g inner) =
      trail_after (suc (k + size ks)) (set (trail_after k trail ks) (suc (b.depth g)) (suc (k + size ks))) inner

  trail_long : (k : ℕ) (trail : List ℕ) (ks : Contents) → length (trail_after k trail ks) ≡ length trail
  unfolding trail_after
  trail_long k trail nothing = refl
  trail_long k trail (segment ks l) = trail_long k trail ks
  trail_long k trail (instance ks g inner) =
      trail_long (suc (k + size ks)) (set (trail_after k trail ks) (suc (b.depth g)) (suc (k + size ks))) inner
      ∙ length-set (trail_after k trail ks) (suc (b.depth g)) (suc (k + size ks)) ∙ trail_long k trail ks

  -- nothing changes at the depth of p and above
  trail_kept : (p : ℕ) (ks : Contents) → Runs b p ks → (k : ℕ) (trail : List ℕ) (j : ℕ) → j ≤ deep b p → get_or (trail_after k trail ks) j 0 ≡ get_or trail j 0
  unfolding trail_after
  trail_kept p nothing r k trail j h = refl
  trail_kept p (segment ks l) r k trail j h = trail_kept p ks r.0 k trail j h
  trail_kept p (instance ks g inner) r k trail j h =
      let d = depth_of b s p g r.1 in
      let e = r.1.deeper in
      trail_kept g inner r.4 (suc (k + size ks)) (set (trail_after k trail ks) (suc (b.depth g)) (suc (k + size ks))) j (omega arith)
      ∙ get_or-set_other (trail_after k trail ks) (suc (b.depth g)) j (suc (k + size ks)) 0 (λ z. omega arith)
      ∙ trail_kept p ks r.0 k trail j h

  -- one home more
  abbrev after : Bool → ℕ → List ℕ → ℕ → List ℕ
  after true t trail number = set trail (suc (b.depth t)) number
  after false t trail number = trail

  noted_next : (p t : ℕ) (e : Bool) (k up : ℕ) (trail rest : List ℕ) → Of b p t → b.group t ≡ e → get_or trail (deep b p) 0 ≡ up
      → noted b k trail (home_for b s e t ∷ rest) ≡ up ∷ noted b (suc k) (after e t trail (suc k)) rest
  unfolding noted opened_by
  noted_next p t false k up trail rest o q h =
      rw (home_for-target b s p t false q o, home_for-trigger b s p t false q o, depth_of b s p t o, h)
  noted_next p t true k up trail rest o q h =
      rw (home_for-target b s p t true q o, home_for-trigger b s p t true q o, depth_of b s p t o, h)

  noted_runs : (p : ℕ) (ks : Contents) → Runs b p ks → (k up : ℕ) (trail : List ℕ) → length trail ≡ 8 → get_or trail (deep b p) 0 ≡ up → (rest : List ℕ)
      → noted b k trail (homes ks rest) ≡ parents up k ks (noted b (k + size ks) (trail_after k trail ks) rest)
  unfolding homes size parents trail_after
  noted_runs p nothing r k up trail l h rest = ap (λ (x : ℕ). noted b x trail rest) (omega arith)
  noted_runs p (segment ks m) r k up trail l h rest =
      noted_runs p ks r.0 k up trail l h (m ∷ rest)
      ∙ ap (parents up k ks)
      (noted_next p m false (k + size ks) up (trail_after k trail ks) rest r.1 r.2 (trail_kept p ks r.0 k trail (deep b p) (omega arith) ∙ h)
      ∙ ap (λ (x : ℕ). up ∷ noted b x (trail_after k trail ks) rest) (omega arith))
  noted_runs p (instance ks g inner) r k up trail l h rest =
      noted_runs p ks r.0 k up trail l h (suc g ∷ homes inner rest)
      ∙ ap (parents up k ks)
      (noted_next p g true (k + size ks) up (trail_after k trail ks) (homes inner rest) r.1 r.2 (trail_kept p ks r.0 k trail (deep b p) (omega arith) ∙ h)
      ∙ ap (λ (x : List ℕ). up ∷ x)
      (noted_runs g inner r.4 (suc (k + size ks)) (suc (k + size ks)) opened long here rest
      ∙ ap (λ (x : ℕ). parents (suc (k + size ks)) (suc (k + size ks)) inner (noted b x (trail_after (suc (k + size ks)) opened inner) rest)) (omega arith)))
    where
      opened : List ℕ
      opened = set (trail_after k trail ks) (suc (b.depth g)) (suc (k + size ks))

      long : length opened ≡ 8
      long = length-set (trail_after k trail ks) (suc (b.depth g)) (suc (k + size ks)) ∙ trail_long k trail ks ∙ l

      here : get_or opened (deep b g) 0 ≡ suc (k + size ks)
      here =
          let a = r.1.after in
          let t = s.trigger g (omega arith) r.1.within r.2 in
          let d = s.deepest (suc g) (omega arith) t.within in
          let e = t.deeper in
          let z : suc (b.depth g) ≡ deep b g = omega (arith, r.1.deeper, depth_of b s p g r.1) in
          ap (λ (x : ℕ). get_or opened x 0) (sym z)
          ∙ get_or-set_same (trail_after k trail ks) (suc (b.depth g)) (suc (k + size ks)) 0 (omega (arith, trail_long k trail ks, l))

  pub tree : (hs : List ℕ) (t : Placed b hs) → noted_parents b hs ≡ parents_of t.tree
  unfolding noted
  tree hs t = ap (noted b 0 root_only) (sym t.same) ∙ noted_runs 0 t.tree t.runs 0 0 root_only refl refl []
