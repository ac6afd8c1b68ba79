-- Law tree, in closed form: a segment's parent is the last earlier trigger of the group around its line, a
-- trigger's that of the group around its own group.
use Prim.Native.Nat.{ℕ, zero, suc, ◌+◌, ◌≤◌, ◌<◌}
use native.Mathlib.Omega.{arith}
use mathlib.Core.Path.{◌≡◌, refl, sym, ap, ◌∙◌, subst}
use mathlib.Core.List.{List, [], ◌∷◌, ◌++◌, append_assoc, append-nil}
use mathlib.Core.Bool.{Bool, true, false, cond}
use lib.Dec.{eqb, ltb}
use lib.ListN.{length, length-append}
use borrow.Author.Tests.{eq-eqb, ne_eqb, lt-ltb, le-ltb}
use Rattle.guide.specs.meaning.Plan.{Plan, deep, opening, Of}
use Rattle.placing_laws.proofs.Structured.{Structured}
use Rattle.placing.specs.meaning.Placement.{Contents, nothing, segment, instance, homes, size, parents, Runs, Placed}
use Rattle.guide.specs.meaning.Tree.{climb, owner}
use Rattle.placing_laws.specs.laws.ClosedTree.{last_of, held_by, closed, closed_parents}
use Rattle.placing.specs.method.Tree.{noted_parents}
use Rattle.placing_laws.proofs.Trees.{homes_append, homes_length, Same, it, other, same}
use Rattle.placing_laws.proofs.Walks.{home_for, home_for-target, opening_le}
use Rattle.placing_laws.proofs.Noted.{tree}

-- every home of a list lies behind line m
abbrev Above : ℕ → List ℕ → Type 0
Above m [] = Unit {0}
Above m (h ∷ hs) = (m < h) × Above m hs

last_append : (x k f : ℕ) (xs ys : List ℕ) → last_of x k f (xs ++ ys) ≡ last_of x (k + length xs) (last_of x k f xs) ys
unfolding last_of
last_append x k f [] ys = ap (λ (n : ℕ). last_of x n f ys) (omega arith)
last_append x k f (h ∷ xs) ys =
    last_append x (suc k) (cond (eqb h x) (suc k) f) xs ys ∙ ap (λ (n : ℕ). last_of x n (last_of x (suc k) (cond (eqb h x) (suc k) f) xs) ys) (omega arith)

last_above : (x k f : ℕ) (hs : List ℕ) → Above x hs → last_of x k f hs ≡ f
unfolding last_of
last_above x k f [] a = refl
last_above x k f (h ∷ hs) a = ap (λ (y : Bool). last_of x (suc k) (cond y (suc k) f) hs) (ne_eqb h x (λ e. let i = a.0 in omega arith)) ∙ last_above x (suc k) f hs a.1

last_here : (x k f : ℕ) → last_of x k f (x ∷ []) ≡ suc k
unfolding last_of
last_here x k f = simp (eq-eqb x x refl)

module _ (b : Plan) (s : Structured b) where
  climb_of : (p d x : ℕ) → p < x → deep b p < d → ((y : ℕ) → p < y → y < x → d ≤ deep b y) → climb b d x ≡ p
  unfolding climb
  climb_of p d zero i h f = absurd (omega arith)
  climb_of p d (suc x) i h f = go (same p x) (λ j. climb_of p d x j h (λ y k l. f y k (omega arith)))
    where
      go : Same p x → (p < x → climb b d x ≡ p) → cond (ltb (deep b x) d) x (climb b d x) ≡ p
      go (it e k) ih = simp (lt-ltb (deep b x) d (subst (λ (z : ℕ). deep b z < d) e h)) (sym e)
      go (other e k) ih = simp (le-ltb (deep b x) d (f x (omega arith) (omega arith))) (ih (omega arith))

  pub owner_of : (p l : ℕ) → Of b p l → owner b l ≡ p
  owner_of p l o =
      let d = o.deeper in
      climb_of p (deep b l) l (let a = o.after in let z = opening_le b s p in omega arith) (omega arith) (λ y i j. let k = o.inside y i j in omega arith)

  -- all homes in an instance lie behind its trigger
  above_runs : (p : ℕ) (ks : Contents) (m : ℕ) → m ≤ opening p → Runs b p ks → (rest : List ℕ) → Above m rest → Above m (homes ks rest)
  unfolding homes
  above_runs p nothing m i r rest a = a
  above_runs p (segment ks l) m i r rest a = above_runs p ks m i r.0 (l ∷ rest) (let h = r.1.after in omega arith, a)
  above_runs p (instance ks g inner) m i r rest a =
      let h = r.1.after in
      above_runs p ks m i r.0 (suc g ∷ homes inner rest) (omega arith, above_runs g inner m (let z = opening_le b s g in omega arith) r.4 rest a)

  -- up is the number of the trigger of p's last instance
  abbrev Holds : ℕ → ℕ → List ℕ → Type 0
  Holds p up seen = held_by p seen ≡ up

  holds_on : (p up : ℕ) (seen hs : List ℕ) → Above (opening p) hs → Holds p up seen → Holds p up (seen ++ hs)
  holds_on zero up seen hs a h = h
  holds_on (suc g) up seen hs a h = last_append (suc (suc g)) 0 0 seen hs ∙ last_above (suc (suc g)) (0 + length seen) (last_of (suc (suc g)) 0 0 seen) hs a ∙ h

  closed_next : (p t : ℕ) (e : Bool) (up : ℕ) (seen rest : List ℕ) → Of b p t → b.group t ≡ e → Holds p up seen
      → closed b seen (home_for b s e t ∷ rest) ≡ up ∷ closed b (seen ++ (home_for b s e t ∷ [])) rest
  unfolding closed
  closed_next p t e up seen rest o k h =
      ap (λ (x : ℕ). x ∷ closed b (seen ++ (home_for b s e t ∷ [])) rest)
      (ap (λ (x : ℕ). held_by (owner b x) seen) (home_for-target b s p t e k o) ∙ ap (λ (x : ℕ). held_by x seen) (owner_of p t o) ∙ h)

  -- a new instance's trigger is the last one
  holds_new : (g n : ℕ) (seen : List ℕ) → 0 < g → length seen ≡ n → Holds g (suc n) (seen ++ (suc g ∷ []))
  holds_new zero n seen z e = absurd (omega arith)
  holds_new (suc g) n seen z e =
      last_append (suc (suc g)) 0 0 seen (suc (suc g) ∷ []) ∙ last_here (suc (suc g)) (0 + length seen) (last_of (suc (suc g)) 0 0 seen) ∙ ap suc (omega arith)

  closed_runs : (p : ℕ) (ks : Contents) → Runs b p ks → (k up : ℕ) (seen : List ℕ) → length seen ≡ k → Holds p up seen → (rest : List ℕ)
      → closed b seen (homes ks rest) ≡ parents up k ks (closed b (seen ++ homes ks []) rest)
  unfolding homes parents size
  closed_runs p nothing r k up seen e h rest = ap (λ (x : List ℕ). closed b x rest) (sym (append-nil seen))
  closed_runs p (segment ks l) r k up seen e h rest =
      closed_runs p ks r.0 k up seen e h (l ∷ rest)
      ∙ ap (parents up k ks)
      (closed_next p l false up (seen ++ homes ks []) rest r.1 r.2 (holds_on p up seen (homes ks []) (above_runs p ks (opening p) (omega arith) r.0 [] tt) h)
      ∙ ap (λ (x : List ℕ). up ∷ closed b x rest) (append_assoc seen (homes ks []) (l ∷ []) ∙ ap (λ (x : List ℕ). seen ++ x) (sym (homes_append ks [] (l ∷ [])))))
  closed_runs p (instance ks g inner) r k up seen e h rest =
      closed_runs p ks r.0 k up seen e h (suc g ∷ homes inner rest)
      ∙ ap (parents up k ks)
      (closed_next p g true up (seen ++ homes ks []) (homes inner rest) r.1 r.2 (holds_on p up seen (homes ks []) (above_runs p ks (opening p) (omega arith) r.0 [] tt) h)
      ∙ ap (λ (x : List ℕ). up ∷ x)
      (closed_runs g inner r.4 (suc (k + size ks)) (suc (k + size ks)) ((seen ++ homes ks []) ++ (suc g ∷ []))
      (length-append (seen ++ homes ks []) (suc g ∷ []) ∙ (let l = long in omega arith))
      (holds_new g (k + size ks) (seen ++ homes ks []) (let a = r.1.after in omega arith) long) rest
      ∙ ap (λ (x : List ℕ). parents (suc (k + size ks)) (suc (k + size ks)) inner (closed b x rest)) joined))
    where
      long : length (seen ++ homes ks []) ≡ k + size ks
      long = length-append seen (homes ks []) ∙ (let l = homes_length ks [] in omega arith)

      joined : ((seen ++ homes ks []) ++ (suc g ∷ [])) ++ homes inner [] ≡ seen ++ homes ks (suc g ∷ homes inner [])
      joined =
          append_assoc (seen ++ homes ks []) (suc g ∷ []) (homes inner []) ∙ append_assoc seen (homes ks []) (suc g ∷ homes inner [])
          ∙ ap (λ (x : List ℕ). seen ++ x) (sym (homes_append ks [] (suc g ∷ homes inner [])))

  -- the parents table in closed form
  pub tree_closed : (hs : List ℕ) (t : Placed b hs) → noted_parents b hs ≡ closed_parents b hs
  unfolding closed
  tree_closed hs t = tree b s hs t ∙ sym (closed_runs 0 t.tree t.runs 0 0 [] refl refl []) ∙ ap (closed b []) t.same
