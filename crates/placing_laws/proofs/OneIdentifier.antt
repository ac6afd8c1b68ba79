-- Law one_identifier: an allowed sequence of homes has exactly one segment on the line that carries the Prüfidentifikator.
-- 01: "The Prüfidentifikator's line is a required segment line of maximum 1, and so is each group around it." So, upward from
-- that line, each instance of a group around it has one such segment, and so has the message: the one line of it that leads
-- there comes once, and its other lines have none, for they lie equally deep and what an instance holds lies deeper.
use Prim.Native.Nat.{ℕ, zero, suc, ◌+◌, ◌-◌, ◌≤◌, ◌<◌}
use native.Mathlib.Omega.{arith}
use native.Mathlib.Decide.{dec_lt}
use mathlib.Core.Path.{◌≡◌, refl, sym, ap, ◌∙◌, subst}
use mathlib.Core.List.{List, [], ◌∷◌}
use mathlib.Core.Logic.{dite}
use mathlib.Core.Bool.{true, false, true≢false, cond}
use lib.Dec.{eqb}
use borrow.Author.Tests.{eq-eqb, eqb-true}
use Rattle.guide.specs.meaning.Words.{group_kind}
use Rattle.guide.proofs.Depths.{line_deep}
use Rattle.guide.specs.meaning.Guide.{guide_of}
use Rattle.book.specs.meaning.GoodBook.{GoodBook, carrier_rule, carrier_group_rule, around_rule, deeper_rule}
use Rattle.book_laws.proofs.Clauses.{carrier_rule_lem, carrier_group}
use Rattle.book_laws.proofs.Parents.{ParentOf, parent_exists}
use Rattle.guide.specs.meaning.Plan.{Plan, plan_in, deep, opening, Of}
use Rattle.placing.specs.meaning.Placement.{Contents, nothing, segment, instance, homes, count, Counted, Runs, Allowed}
use Rattle.placing_laws.specs.laws.Occurrences.{occurrences}
use Rattle.placing_laws.proofs.Structured.{Structured, structured}
use Rattle.placing_laws.proofs.Trees.{one_here, one_other, Same, it, other, same}
use Rattle.placing_laws.proofs.Walks.{opening_le}

opening_of : (g : ℕ) → 0 < g → opening g ≡ suc g
opening_of zero h = absurd (omega arith)
opening_of (suc g) h = refl

-- a child of line m, behind n of line t; w occur with it and k after it: it adds one exactly if its line is t
adds : (m t n w k : ℕ) → (m ≡ t → w ≡ suc k) → ((m ≡ t → ⊥) → w ≡ k) → n + w ≡ cond (eqb m t) 1 0 + n + k
adds m t n w k here elsewhere = go (same m t)
  where
    go : Same m t → n + w ≡ cond (eqb m t) 1 0 + n + k
    go (it e f) = let h = here e in let c = f n in omega arith
    go (other e f) = let h = elsewhere e in let c = f n in omega arith

module _ (b : Plan) (s : Structured b) where
  -- ---- what lies inside what

  -- x is line p, or all lines behind p up to x lie deeper
  record Inside (p x : ℕ) : Type 0 where
    from : p ≤ x
    deeper : (y : ℕ) → p < y → y ≤ x → deep b p < deep b y

  inside_itself : (x : ℕ) → Inside x x
  inside_itself x = record { from = omega arith; deeper = λ y i j. absurd (omega arith) }

  -- inside, from the lines before x and x itself
  inside_next : (p x : ℕ) → p ≤ x → ((y : ℕ) → p < y → y < x → deep b p < deep b y) → deep b p < deep b x → Inside p x
  inside_next p x i f h = record { from = i; deeper = λ y j k. go y j k (same y x) }
    where
      go : (y : ℕ) → p < y → y ≤ x → Same y x → deep b p < deep b y
      go y j k (it e g) = subst (λ (z : ℕ). deep b p < deep b z) (sym e) h
      go y j k (other e g) = f y j (omega arith)

  -- a group has its further lines and its trigger inside
  inside_of : (p l : ℕ) → Of b p l → Inside p l
  inside_of p l o = inside_next p l (let z = opening_le b s p in omega arith) o.inside (omega arith)

  inside_trigger : (p g : ℕ) → Of b p g → b.group g ≡ true → Inside g (suc g)
  inside_trigger p g o k =
      let t = s.trigger g (omega arith) o.within k in
      inside_next g (suc g) (omega arith) (λ y i j. absurd (omega arith))
      (let u = line_deep b g (omega arith) in let v = line_deep b (suc g) (omega arith) in omega arith)

  inside_nests : (p g x : ℕ) → p < g → Inside p g → Inside g x → Inside p x
  inside_nests p g x h i j =
      let u = i.deeper g h (omega arith) in
      record {
        from = omega arith;
        deeper = λ y k l. dite (dec_lt g y) (λ m. let d = j.deeper y m l in omega arith) (λ m. i.deeper y k (omega arith));
      }

  -- x is inside one line of p at most
  inside_one : (p l t x : ℕ) → Of b p l → Of b p t → Inside l x → Inside t x → l ≡ t
  inside_one p l t x o q i j =
      dite (dec_lt l t) (λ h. absurd (let d = i.deeper t h j.from in omega arith))
      (λ h. dite (dec_lt t l) (λ k. absurd (let d = j.deeper l k i.from in omega arith)) (λ k. omega arith))

  module _ (x : ℕ) where
    -- ---- where x does not occur

    -- an instance's trigger is not x, where x is not inside its group
    past_trigger : (p g : ℕ) (hs : List ℕ) → Of b p g → b.group g ≡ true → (Inside g x → ⊥) → occurrences x (suc g ∷ hs) ≡ occurrences x hs
    unfolding occurrences
    past_trigger p g hs o k n = one_other (suc g) x (occurrences x hs) (λ e. n (subst (λ (y : ℕ). Inside g y) e (inside_trigger p g o k)))

    -- what p holds lies inside p and behind its trigger: elsewhere x does not occur
    none : (p : ℕ) (ks : Contents) → (opening p < x → Inside p x → ⊥) → Runs b p ks → (rest : List ℕ) → occurrences x (homes ks rest) ≡ occurrences x rest
    unfolding homes occurrences
    none p nothing n r rest = refl
    none p (segment ks l) n r rest =
        none p ks n r.0 (l ∷ rest)
        ∙ one_other l x (occurrences x rest) (λ e. n (omega arith) (subst (λ (y : ℕ). Inside p y) e (inside_of p l r.1)))
    none p (instance ks g inner) n r rest =
        none p ks n r.0 (suc g ∷ homes inner rest) ∙ past_trigger p g (homes inner rest) r.1 r.2 outside ∙ none g inner (λ _. outside) r.4 rest
      where
        outside : Inside g x → ⊥
        outside i = let z = opening_le b s p in n (omega arith) (inside_nests p g x (omega arith) (inside_of p g r.1) i)

    -- so in a whole instance, where x is not inside its group
    none_in : (p g : ℕ) (inner : Contents) → Of b p g → b.group g ≡ true → (Inside g x → ⊥) → Runs b g inner → (rest : List ℕ)
        → occurrences x (suc g ∷ homes inner rest) ≡ occurrences x rest
    none_in p g inner o k n r rest = past_trigger p g (homes inner rest) o k n ∙ none g inner (λ _. n) r rest

    -- ---- where it occurs once

    -- each instance of g, its trigger and what it holds, has x once
    abbrev Held : ℕ → Type 0
    Held g = (inner : Contents) → Runs b g inner → Counted b g inner → (rest : List ℕ) → occurrences x (suc g ∷ homes inner rest) ≡ suc (occurrences x rest)

    -- line t leads to x: it comes once, and is x or a group each of whose instances has x once
    record Leads (t : ℕ) : Type 0 where
      inside : Inside t x
      required : b.required t ≡ true
      once : b.maximum t ≡ 1
      itself : b.group t ≡ false → t ≡ x
      held : b.group t ≡ true → Held t

    -- x occurs as often as the line that leads to it
    tally : (p t : ℕ) → Of b p t → Leads t → (ks : Contents) → Runs b p ks → (rest : List ℕ) → occurrences x (homes ks rest) ≡ count t ks + occurrences x rest
    unfolding homes occurrences count
    tally p t o e nothing r rest = omega arith
    tally p t o e (segment ks l) r rest =
        tally p t o e ks r.0 (l ∷ rest)
        ∙ adds l t (count t ks) _ (occurrences x rest) (λ q. one_here l x (occurrences x rest) ((subst (λ (y : ℕ). Leads y) (sym q) e).itself r.2))
        (λ q. one_other l x (occurrences x rest) (λ z. q (inside_one p l t x r.1 o (subst (λ (y : ℕ). Inside l y) z (inside_itself l)) e.inside)))
    tally p t o e (instance ks g inner) r rest =
        tally p t o e ks r.0 (suc g ∷ homes inner rest)
        ∙ adds g t (count t ks) _ (occurrences x rest) (λ q. (subst (λ (y : ℕ). Leads y) (sym q) e).held r.2 inner r.4 r.5 rest)
        (λ q. none_in p g inner r.1 r.2 (λ i. q (inside_one p g t x r.1 o i e.inside)) r.4 rest)

    -- what has a line that leads to x has x once
    once_in : (p t : ℕ) → Of b p t → Leads t → (ks : Contents) → Runs b p ks → Counted b p ks → (rest : List ℕ)
        → occurrences x (homes ks rest) ≡ suc (occurrences x rest)
    once_in p t o e ks r c rest =
        let n = tally p t o e ks r rest in let most = (c t o).0 in let least = (c t o).1 e.required in omega arith

    -- an instance whose trigger is x
    held_trigger : (g : ℕ) → 0 < g → suc g ≡ x → Held g
    unfolding occurrences
    held_trigger g z e inner r c rest =
        one_here (suc g) x (occurrences x (homes inner rest)) e ∙ ap suc (none g inner (λ h _. let u = opening_of g z in omega arith) r rest)

    -- an instance with x behind its trigger
    held_further : (g t : ℕ) → 0 < g → Of b g t → Leads t → Held g
    unfolding occurrences
    held_further g t z o e inner r c rest =
        one_other (suc g) x (occurrences x (homes inner rest)) (λ q. let u = opening_of g z in omega arith)
        ∙ once_in g t o e inner r c rest

module _ (bs : List ℕ) (good : GoodBook bs) where
  abbrev b : Plan
  b = plan_in bs

  s : Structured b
  s = structured bs good

  abbrev x : ℕ
  x = (guide_of bs).carrier

  -- ---- from the carrier upward

  carrier_within : (1 ≤ x) × (x ≤ b.lines)
  unfolding carrier_rule
  carrier_within = (carrier_rule_lem bs good).0

  carrier_leads : Leads b s x x
  unfolding carrier_rule
  carrier_leads =
      let c = carrier_rule_lem bs good in
      record {
        inside = inside_itself b s x;
        required = eq-eqb ((guide_of bs).required x) 1 c.1.1.0;
        once = c.1.1.1;
        itself = λ _. refl;
        held = λ k. absurd (let e = eqb-true ((guide_of bs).kind x) group_kind k in omega arith);
      }

  -- 01: "and so is each group around it"
  group_once : (p : ℕ) → 1 ≤ p → (guide_of bs).kind p ≡ group_kind → p < x → Inside b s p x → (b.required p ≡ true) × (b.maximum p ≡ 1)
  unfolding carrier_group_rule around_rule deeper_rule
  group_once p z k h i =
      let w = carrier_within in
      let c = carrier_group bs good p z (omega arith) (k, (omega arith, below)) in
      (eq-eqb ((guide_of bs).required p) 1 c.0, c.1)
    where
      below : (y : ℕ) → p + 1 ≤ y → y < p + 1 + (x - p) → (guide_of bs).depth p + 1 ≤ (guide_of bs).depth y
      below y j l = let d = i.deeper y (omega arith) (omega arith) in let u = line_deep b p z in let v = line_deep b y (omega arith) in omega arith

  -- the parent that the book knows, in the words of placing
  inside_parent : (p t : ℕ) → ParentOf (guide_of bs) p t → Inside b s p t
  inside_parent p t q =
      let e = q.encloses in
      record {
        from = omega arith;
        deeper = λ y i j. let d = e.deeper y i j in let u = line_deep b p e.first in let v = line_deep b y (omega arith) in omega arith;
      }

  of_parent : (p t : ℕ) → ParentOf (guide_of bs) p t → t ≤ b.lines → (suc p ≡ t → ⊥) → Of b p t
  of_parent p t q w n =
      let z = q.encloses.first in
      record {
        after = let u = opening_of p z in omega arith;
        within = w;
        deeper = let u = line_deep b p z in let v = line_deep b t (omega arith) in omega arith;
        inside = λ y i j. (inside_parent p t q).deeper y i (omega arith);
      }

  -- t is its parent's trigger, and then the carrier itself, or one of its further lines
  held_parent : (p t : ℕ) → ParentOf (guide_of bs) p t → t ≤ b.lines → Leads b s x t → b.group p ≡ true → Held b s x p
  held_parent p t q w e k = go (same (suc p) t)
    where
      go : Same (suc p) t → Held b s x p
      go (it n f) =
          held_trigger b s x p q.encloses.first
          (n ∙ e.itself (subst (λ (y : ℕ). b.group y ≡ false) n (s.trigger p q.encloses.first (omega arith) k).segment))
      go (other n f) = held_further b s x p t q.encloses.first (of_parent p t q w n) e

  leads_parent : (p t : ℕ) → ParentOf (guide_of bs) p t → t ≤ b.lines → Leads b s x t → Leads b s x p
  leads_parent p t q w e =
      let a = q.encloses in
      let i = inside_nests b s p t x a.before (inside_parent p t q) e.inside in
      let o = group_once p a.first a.group (omega arith) i in
      record {
        inside = i;
        required = o.0;
        once = o.1;
        itself = λ n. absurd (true≢false (sym (eq-eqb ((guide_of bs).kind p) group_kind a.group) ∙ n));
        held = held_parent p t q w e;
      }

  of_root : (t : ℕ) → 1 ≤ t → t ≤ b.lines → b.depth t ≡ 0 → Of b 0 t
  of_root t z w d =
      record {
        after = z;
        within = w;
        deeper = line_deep b t z ∙ ap suc d;
        inside = λ y i j. let v = line_deep b y i in omega arith;
      }

  -- from parent to parent
  once_at_root : (d t : ℕ) → b.depth t ≡ d → 1 ≤ t → t ≤ b.lines → Leads b s x t → (ks : Contents) → Runs b 0 ks → Counted b 0 ks
      → occurrences x (homes ks []) ≡ 1
  unfolding occurrences
  once_at_root zero t d z w e ks r c = once_in b s x 0 t (of_root t z w d) e ks r c []
  once_at_root (suc d) t h z w e ks r c =
      let q = parent_exists bs good t z w (omega arith) in
      once_at_root d q.0 (omega arith) q.1.encloses.first (omega arith) (leads_parent q.0 t q.1 w e) ks r c

pub one_identifier : (book : List ℕ) (good : GoodBook book) (hs : List ℕ) → Allowed (plan_in book) hs → occurrences (guide_of book).carrier hs ≡ 1
one_identifier book good hs a =
    let x = (guide_of book).carrier in
    let w = carrier_within book good in
    ap (occurrences x) (sym a.same) ∙ once_at_root book good ((plan_in book).depth x) x refl w.0 w.1 (carrier_leads book good) a.tree a.runs a.counted
