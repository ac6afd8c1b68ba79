-- The pass over the homes finds the instances of a line's parent, and in each the line's first segment, as the tree gives them. A
-- segment that shows the line hangs under the last trigger before it: so the instances do not overlap, and what is seen from one
-- trigger to the next is what the tree has there.
use Prim.Native.Nat.{ℕ, zero, suc, ◌+◌, ◌≤◌, ◌<◌}
use native.Mathlib.Omega.{arith}
use mathlib.Core.Path.{◌≡◌, refl, sym, ap, ◌∙◌}
use mathlib.Core.List.{List, [], ◌∷◌, ◌++◌, map}
use mathlib.Core.Bool.{Bool, true, false, cond, ◌&&◌}
use lib.Dec.{eqb}
use lib.ListN.{length, length-append}
use borrow.Author.Tests.{eq-eqb, ne_eqb, eqb-true, eqb-false}
use Rattle.guide.specs.meaning.Plan.{Plan, opening, is_trigger}
use Rattle.guide.specs.method.Targets.{target}
use Rattle.guide.specs.meaning.Tree.{owner}
use Rattle.placing_laws.specs.laws.ClosedTree.{last_of, held_by, closed, closed_parents}
use Rattle.placing_laws.proofs.Structured.{Structured}
use Rattle.rules.specs.meaning.Instances.{segments_of, instances_of, shown_by, first_in, first_of}
use Rattle.rules.specs.method.Scanning.{Instance, instance_of, noted, begun, instances_from, behind_first, instances_in}
use Rattle.rules_laws.proofs.Lines.{Homed, apart, together, trigger_owner, sign_target}

-- ---- the tree, as far as one line sees it: a segment of home s hangs under the last one of home o before it, cur so far

abbrev Under : ℕ → ℕ → ℕ → ℕ → List ℕ → List ℕ → Type 0
Under o s cur j [] [] = Unit {0}
Under o s cur j [] (p ∷ ps) = ⊥
Under o s cur j (h ∷ hs) [] = ⊥
Under o s cur j (h ∷ hs) (p ∷ ps) = (h ≡ s → p ≡ cur) × Under o s (cond (eqb h o) j cur) (suc j) hs ps

last_more : (x k f : ℕ) (xs : List ℕ) (h : ℕ) → last_of x k f (xs ++ (h ∷ [])) ≡ cond (eqb h x) (suc (k + length xs)) (last_of x k f xs)
unfolding last_of
last_more x k f [] h = ap (λ (n : ℕ). cond (eqb h x) (suc n) f) (omega arith)
last_more x k f (y ∷ xs) h =
    last_more x (suc k) (cond (eqb y x) (suc k) f) xs h
    ∙ ap (λ (n : ℕ). cond (eqb h x) (suc n) (last_of x (suc k) (cond (eqb y x) (suc k) f) xs)) (omega arith)

held_more : (o : ℕ) (seen : List ℕ) (h : ℕ) → (h ≡ 0 → ⊥) → held_by o (seen ++ (h ∷ [])) ≡ cond (eqb h (opening o)) (suc (length seen)) (held_by o seen)
held_more zero seen h n = rw (ne_eqb h 0 n)
held_more (suc g) seen h n =
    let e : 0 + length seen ≡ length seen = omega arith in
    last_more (suc (suc g)) 0 0 seen h ∙ ap (λ (k : ℕ). cond (eqb h (suc (suc g))) (suc k) (last_of (suc (suc g)) 0 0 seen)) e

held_none : (o : ℕ) → held_by o [] ≡ 0
unfolding last_of
held_none zero = refl
held_none (suc g) = refl

under_closed : (b : Plan) (o s : ℕ) → owner b (target b s) ≡ o → (seen hs : List ℕ) (cur j : ℕ) → held_by o seen ≡ cur → suc (length seen) ≡ j → Homed hs
    → Under (opening o) s cur j hs (closed b seen hs)
unfolding closed
under_closed b o s e seen [] cur j c k h = tt
under_closed b o s e seen (x ∷ hs) cur j c k h = (
  λ q. ap (λ (y : ℕ). held_by (owner b (target b y)) seen) q ∙ ap (λ (y : ℕ). held_by y seen) e ∙ c,
  under_closed b o s e (seen ++ (x ∷ [])) hs (cond (eqb x (opening o)) j cur) (suc j)
      (held_more o seen x h.0 ∙ (λ i. cond (eqb x (opening o)) (k i) (c i)))
      (ap suc (length-append seen (x ∷ []) ∙ (let l = k in omega arith))) h.1,
)

-- ---- a step of the search in the tree

first_skip : (s t j h p : ℕ) (hs ps : List ℕ) → (h ≡ s → p ≡ t → ⊥) → first_in s t j (h ∷ hs) (p ∷ ps) ≡ first_in s t (suc j) hs ps
unfolding first_in
first_skip s t j h p hs ps n = go (eqb h s) (eqb p t) refl refl
  where
    go : (b c : Bool) → eqb h s ≡ b → eqb p t ≡ c → cond (b && c) j (first_in s t (suc j) hs ps) ≡ first_in s t (suc j) hs ps
    go true true x y = absurd (n (eqb-true h s x) (eqb-true p t y))
    go true false x y = refl
    go false c x y = refl

first_hit : (s t j h p : ℕ) (hs ps : List ℕ) → h ≡ s → p ≡ t → first_in s t j (h ∷ hs) (p ∷ ps) ≡ j
unfolding first_in
first_hit s t j h p hs ps x y = rw (eq-eqb h s x, eq-eqb p t y)

-- behind an instance nothing more belongs to it
after : (o s t cur j : ℕ) (hs ps : List ℕ) → t < cur → t < j → Under o s cur j hs ps → first_in s t j hs ps ≡ 0
unfolding first_in
after o s t cur j [] [] p q u = refl
after o s t cur j [] (y ∷ ps) p q u = absurd u
after o s t cur j (h ∷ hs) [] p q u = absurd u
after o s t cur j (h ∷ hs) (y ∷ ps) p q u =
    first_skip s t j h y hs ps (λ a b. let e : y ≡ cur = u.0 a in omega arith)
    ∙ after o s t (cond (eqb h o) j cur) (suc j) hs ps (go (eqb h o)) (omega arith) u.1
  where
    go : (b : Bool) → t < cond b j cur
    go true = q
    go false = p

-- ---- the pass, where the trigger does not show the line

module _ (o s : ℕ) (differ : o ≡ s → ⊥) (first : ℕ → ℕ) where
  abbrev found : ℕ → Instance
  found t = instance_of t (first t)

  -- what the tree has in the open instance, of which `seen` has been seen
  abbrev Open : ℕ → ℕ → ℕ → List ℕ → List ℕ → Type 0
  Open cur seen j hs ps = first cur ≡ cond (eqb seen 0) (first_in s cur j hs ps) seen

  -- and in those that begin later
  abbrev Later : ℕ → List ℕ → List ℕ → Type 0
  Later j hs ps = (t : ℕ) → j ≤ t → first t ≡ first_in s t j hs ps

  seen_or_not : (seen x : ℕ) → x ≡ 0 → cond (eqb seen 0) x seen ≡ seen
  seen_or_not seen x e = go (eqb seen 0) refl
    where
      go : (b : Bool) → eqb seen 0 ≡ b → cond b x seen ≡ seen
      go true q = e ∙ sym (eqb-true seen 0 q)
      go false q = refl

  passes : (cur seen j : ℕ) (hs ps : List ℕ) → cur < j → Under o s cur j hs ps → Open cur seen j hs ps → Later j hs ps
      → map found (cur ∷ segments_of o j hs) ≡ instances_from o s cur seen j hs
  unfolding segments_of instances_from first_in
  passes cur seen j [] [] lt u open-one later = ap (λ (x : ℕ). instance_of cur x ∷ []) (open-one ∙ seen_or_not seen 0 refl)
  passes cur seen j [] (y ∷ ps) lt u open-one later = absurd u
  passes cur seen j (h ∷ hs) [] lt u open-one later = absurd u
  passes cur seen j (h ∷ hs) (y ∷ ps) lt u open-one later =
      go (eqb h o) refl u.1 (λ cur' seen'. passes cur' seen' (suc j) hs ps)
    where
      -- a segment that is not seen, or is seen in the open instance, is none of the later ones
      skipped : (t : ℕ) → cur < t → first_in s t j (h ∷ hs) (y ∷ ps) ≡ first_in s t (suc j) hs ps
      skipped t i = first_skip s t j h y hs ps (λ a b. let e : y ≡ cur = u.0 a in omega arith)

      on : (c : Bool) → eqb h s ≡ c → (d : Bool) → eqb seen 0 ≡ d → Open cur (cond (c && d) j seen) (suc j) hs ps
      on true a true z =
          open-one ∙ ap (λ (b : Bool). cond b (first_in s cur j (h ∷ hs) (y ∷ ps)) seen) z
          ∙ first_hit s cur j h y hs ps (eqb-true h s a) (u.0 (eqb-true h s a))
          ∙ sym (ap (λ (b : Bool). cond b (first_in s cur (suc j) hs ps) j) (ne_eqb j 0 (λ e. omega arith)))
      on true a false z =
          open-one ∙ ap (λ (b : Bool). cond b (first_in s cur j (h ∷ hs) (y ∷ ps)) seen) z
          ∙ sym (ap (λ (b : Bool). cond b (first_in s cur (suc j) hs ps) seen) z)
      on false a d z = open-one ∙ ap (λ (x : ℕ). cond (eqb seen 0) x seen) (first_skip s cur j h y hs ps (λ e _. eqb-false h s a e))

      go : (b : Bool) → eqb h o ≡ b → Under o s (cond b j cur) (suc j) hs ps
          → ((cur' seen' : ℕ) → cur' < suc j → Under o s cur' (suc j) hs ps → Open cur' seen' (suc j) hs ps → Later (suc j) hs ps
          → map found (cur' ∷ segments_of o (suc j) hs) ≡ instances_from o s cur' seen' (suc j) hs)
          → map found (cur ∷ cond b (j ∷ segments_of o (suc j) hs) (segments_of o (suc j) hs))
          ≡ cond b (instance_of cur seen ∷ instances_from o s j (begun o s j) (suc j) hs) (instances_from o s cur (noted h s seen j) (suc j) hs)
      go true e v again =
          let other : h ≡ s → ⊥ = λ (q : h ≡ s). differ (sym (eqb-true h o e) ∙ q) in
          let none : first_in s cur j (h ∷ hs) (y ∷ ps) ≡ 0 =
          first_skip s cur j h y hs ps (λ q _. other q) ∙ after o s cur j (suc j) hs ps lt (omega arith) v in
          let first_here : first cur ≡ seen = open-one ∙ seen_or_not seen (first_in s cur j (h ∷ hs) (y ∷ ps)) none in
          let fresh : begun o s j ≡ 0 = ap (λ (b : Bool). cond b j 0) (ne_eqb o s differ) in
          (λ i. instance_of cur (first_here i) ∷ (
          again j 0 (omega arith) v (later j (omega arith) ∙ first_skip s j j h y hs ps (λ q _. other q)) (λ t k. later t (omega arith) ∙ first_skip s t j h y hs ps (λ q _. other q))
          ∙ ap (λ (x : ℕ). instances_from o s j x (suc j) hs) (sym fresh)) i)
      go false e v again =
          again cur (noted h s seen j) (omega arith) v (on (eqb h s) refl (eqb seen 0) refl) (λ t k. later t (omega arith) ∙ skipped t (omega arith))

-- ---- the pass, where it does

own_instances : (o cur seen j : ℕ) (hs : List ℕ) → instances_from o o cur seen j hs ≡ instance_of cur seen ∷ map (λ t. instance_of t t) (segments_of o j hs)
unfolding segments_of instances_from
own_instances o cur seen j [] = refl
own_instances o cur seen j (h ∷ hs) = go (eqb h o) refl (own_instances o j j (suc j) hs) (own_instances o cur seen (suc j) hs)
  where
    go : (b : Bool) → eqb h o ≡ b
        → instances_from o o j j (suc j) hs ≡ instance_of j j ∷ map (λ t. instance_of t t) (segments_of o (suc j) hs)
        → instances_from o o cur seen (suc j) hs ≡ instance_of cur seen ∷ map (λ t. instance_of t t) (segments_of o (suc j) hs)
        → cond b (instance_of cur seen ∷ instances_from o o j (begun o o j) (suc j) hs) (instances_from o o cur (noted h o seen j) (suc j) hs)
        ≡ instance_of cur seen ∷ map (λ t. instance_of t t) (cond b (j ∷ segments_of o (suc j) hs) (segments_of o (suc j) hs))
    go true e new same =
        ap (λ (is : List Instance). instance_of cur seen ∷ is)
        (ap (λ (b : Bool). instances_from o o j (cond b j 0) (suc j) hs) (eq-eqb o o refl) ∙ new)
    go false e new same = ap (λ (b : Bool). instances_from o o cur (cond (b && eqb seen 0) j seen) (suc j) hs) e ∙ same

-- ---- a line's instances

no_root : (j : ℕ) (hs : List ℕ) → Homed hs → segments_of 0 j hs ≡ []
unfolding segments_of
no_root j [] h = refl
no_root j (x ∷ hs) h = rw (ne_eqb x 0 h.0) (no_root (suc j) hs h.1)

group_instances : (g s : ℕ) (hs : List ℕ) → behind_first (instances_from (suc g) s 0 0 1 hs) ≡ instances_in (suc g) s hs
group_instances g s hs =
    sym (ap (λ (c : Bool). cond c (instances_from (suc g) s 0 0 1 hs) (behind_first (instances_from (suc g) s 0 0 1 hs))) (ne_eqb (suc g) 0 (λ e. omega arith)))

module _ (b : Plan) (st : Structured b) (hs : List ℕ) (homed : Homed hs) (l : ℕ) (from : 1 ≤ l) (to : l ≤ b.lines) where
  abbrev ps : List ℕ
  ps = closed_parents b hs

  -- a line with its first segment in instance t
  abbrev pub shown_in : List ℕ → ℕ → Instance
  shown_in qs t = instance_of t (first_of b l t hs qs)

  trigger_line : is_trigger b l ≡ true → (o : ℕ) → owner b l ≡ o → 0 < o → map (shown_in ps) (instances_of o hs) ≡ instances_in (opening o) (shown_by b l) hs
  trigger_line t zero e h = absurd (omega arith)
  trigger_line t (suc g) e h =
      let same : opening (suc g) ≡ shown_by b l = ap opening (sym e) ∙ together b st l from to t in
      ap (λ (c : Bool). map (λ (x : ℕ). instance_of x (cond c x (first_in (shown_by b l) x 1 hs ps))) (segments_of (suc (suc g)) 1 hs)) t
      ∙ ap behind_first (sym (own_instances (suc (suc g)) 0 0 1 hs))
      ∙ ap (λ (x : ℕ). behind_first (instances_from (suc (suc g)) x 0 0 1 hs)) same ∙ group_instances (suc g) (shown_by b l) hs

  other_line : is_trigger b l ≡ false → (o : ℕ) → owner b l ≡ o → map (shown_in ps) (instances_of o hs) ≡ instances_in (opening o) (shown_by b l) hs
  unfolding closed
  other_line n o e = ap (λ (c : Bool). map (λ (x : ℕ). instance_of x (cond c x (first_in (shown_by b l) x 1 hs ps))) (instances_of o hs)) n ∙ go o e
    where
      found_all : (o : ℕ) → owner b l ≡ o
          → map (λ (x : ℕ). instance_of x (first_in (shown_by b l) x 1 hs ps)) (0 ∷ segments_of (opening o) 1 hs) ≡ instances_from (opening o) (shown_by b l) 0 0 1 hs
      found_all o e =
          passes (opening o) (shown_by b l) (λ q. apart b st l from to n (ap opening e ∙ q)) (λ x. first_in (shown_by b l) x 1 hs ps) 0 0 1 hs ps (omega arith)
          (under_closed b o (shown_by b l) (ap (owner b) (sign_target b st l from n) ∙ e) [] hs 0 1 (held_none o) refl homed) refl (λ t i. refl)

      go : (o : ℕ) → owner b l ≡ o → map (λ (x : ℕ). instance_of x (first_in (shown_by b l) x 1 hs ps)) (instances_of o hs) ≡ instances_in (opening o) (shown_by b l) hs
      go zero e =
          ap (λ (ts : List ℕ). map (λ (x : ℕ). instance_of x (first_in (shown_by b l) x 1 hs ps)) (0 ∷ ts)) (sym (no_root 1 hs homed)) ∙ found_all zero e
      go (suc g) e = ap behind_first (found_all (suc g) e) ∙ group_instances (suc g) (shown_by b l) hs

  pub line_instances : map (shown_in (closed_parents b hs)) (instances_of (owner b l) hs) ≡ instances_in (opening (owner b l)) (shown_by b l) hs
  line_instances = go (is_trigger b l) refl
    where
      go : (t : Bool) → is_trigger b l ≡ t → map (shown_in (closed_parents b hs)) (instances_of (owner b l) hs) ≡ instances_in (opening (owner b l)) (shown_by b l) hs
      go true e = trigger_line e (owner b l) refl (trigger_owner b st l from to e)
      go false e = other_line e (owner b l) refl
