-- Law one_placement: a sequence of homes has one placement tree at most.
use Prim.Native.Nat.{ℕ, zero, suc}
use native.Mathlib.Omega.{arith}
use mathlib.Core.Path.{◌≡◌, refl, sym, ap, ◌∙◌}
use mathlib.Core.List.{List, [], ◌∷◌, ◌++◌}
use mathlib.Core.Bool.{Bool, true, false}
use lib.ListN.{length, length-append}
use Rattle.guide.specs.meaning.Plan.{Plan, deep, Of, is_trigger}
use Rattle.guide.specs.method.Targets.{target}
use Rattle.placing_laws.proofs.Structured.{Structured}
use Rattle.placing.specs.meaning.Placement.{Contents, nothing, segment, instance, homes, Runs, Placed}
use Rattle.placing_laws.proofs.Walks.{added, home_for, depth_of, home_for-trigger, home_for-target}

-- the open instances around a place in a tree, outermost first
record Around : Type 0 where
  before : Contents
  line : ℕ

unfoldable plug : List Around → Contents → Contents
plug [] ks = ks
plug (f ∷ fs) ks = instance f.before f.line (plug fs ks)

-- a tree with one child more, d levels down
unfoldable put_at : ℕ → (Contents → Contents) → Contents → Contents
put_at zero f T = f T
put_at (suc d) f nothing = nothing
put_at (suc d) f (segment ks l) = segment ks l
put_at (suc d) f (instance ks g inner) = instance ks g (put_at d f inner)

put_plug : (fs : List Around) (f : Contents → Contents) (ks : Contents) → put_at (length fs) f (plug fs ks) ≡ plug fs (f ks)
unfolding plug put_at
put_plug [] f ks = refl
put_plug (x ∷ fs) f ks = ap (instance x.before x.line) (put_plug fs f ks)

plug_plug : (fs : List Around) (x : Around) (ks : Contents) → plug (fs ++ (x ∷ [])) ks ≡ plug fs (instance x.before x.line ks)
unfolding plug
plug_plug [] x ks = refl
plug_plug (y ∷ fs) x ks = ap (instance y.before y.line) (plug_plug fs x ks)

module _ (b : Plan) (s : Structured b) where
  unfoldable grow : Contents → ℕ → Contents
  grow T h = put_at (b.depth (target b h)) (λ ks. added b s (is_trigger b h) ks (target b h)) T

  unfoldable grows : Contents → List ℕ → Contents
  grows T [] = T
  grows T (h ∷ hs) = grows (grow T h) hs

  grows_on : (T : Contents) (h : ℕ) (hs : List ℕ) → grows T (h ∷ hs) ≡ grows (grow T h) hs
  unfolding grows
  grows_on T h hs = refl

  grow_next : (p t : ℕ) (e : Bool) (fs : List Around) (ks : Contents) → Of b p t → b.group t ≡ e → length fs ≡ deep b p
      → grow (plug fs ks) (home_for b s e t) ≡ plug fs (added b s e ks t)
  unfolding grow
  grow_next p t e fs ks o k d =
      rw (home_for-target b s p t e k o, home_for-trigger b s p t e k o, depth_of b s p t o, ← d) (put_plug fs (λ x. added b s e x t) ks)

  grows_runs : (p : ℕ) (ks : Contents) → Runs b p ks → (fs : List Around) → length fs ≡ deep b p → (rest : List ℕ)
      → grows (plug fs nothing) (homes ks rest) ≡ grows (plug fs ks) rest
  unfolding homes
  grows_runs p nothing r fs d rest = refl
  grows_runs p (segment ks l) r fs d rest =
      grows_runs p ks r.0 fs d (l ∷ rest) ∙ grows_on (plug fs ks) l rest ∙ ap (λ (T : Contents). grows T rest) (grow_next p l false fs ks r.1 r.2 d)
  grows_runs p (instance ks g inner) r fs d rest =
      let x : Around = record { before = ks; line = g } in
      grows_runs p ks r.0 fs d (suc g ∷ homes inner rest) ∙ grows_on (plug fs ks) (suc g) (homes inner rest)
      ∙ ap (λ (T : Contents). grows T (homes inner rest)) (grow_next p g true fs ks r.1 r.2 d ∙ sym (plug_plug fs x nothing))
      ∙ grows_runs g inner r.4 (fs ++ (x ∷ [])) (length-append fs (x ∷ []) ∙ (let e = r.1.deeper in omega arith)) rest
      ∙ ap (λ (T : Contents). grows T rest) (plug_plug fs x inner)

  grown : (hs : List ℕ) (t : Placed b hs) → t.tree ≡ grows nothing hs
  unfolding grows plug
  grown hs t = sym (grows_runs 0 t.tree t.runs [] refl []) ∙ ap (grows nothing) t.same

  pub one_placement : (hs : List ℕ) (x y : Placed b hs) → x.tree ≡ y.tree
  one_placement hs x y = grown hs x ∙ sym (grown hs y)
