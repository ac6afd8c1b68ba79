-- What the test pass finds, in terms of placement trees: numbers 10 and 11, and when the homes are allowed.
use Prim.Native.Nat.{ℕ, suc, ◌-◌, ◌≤◌, ◌<◌}
use native.Mathlib.Omega.{arith}
use native.Mathlib.Decide.{dec_lt}
use mathlib.Core.Path.{◌≡◌, refl, sym, ap, ◌∙◌, subst}
use mathlib.Core.List.{List, [], ◌∷◌, ◌++◌, append_assoc, append-nil}
use mathlib.Core.Bool.{Bool, true, false, false≢true, cond, ◌&&◌}
use mathlib.Core.Logic.{◌↔◌, dite}
use lib.Dec.{eqb}
use lib.ListN.{length, get_or, take, drop, take-append-drop, length-append, get_or-append}
use lib.Seq.{take-append-le, take_all, get_or-append_seam}
use borrow.Author.Tests.{eq-eqb, eqb-true, eqb-false}
use Rattle.guide.specs.meaning.Plan.{Plan, is_trigger}
use Rattle.guide.specs.method.Targets.{target}
use Rattle.placing.specs.meaning.Placement.{Allowed}
use Rattle.placing.specs.meaning.Placement as placement
use Rattle.placing.specs.method.Walking.{start, is_placeable, admits, stacked, entered, advanced, walked, is_alive}
use Rattle.placing_laws.specs.laws.AtEnd.{is_at_end}
use Rattle.placing.specs.meaning.Answers.{HaveHomes, FirstWithout}
use Rattle.placing_laws.specs.laws.Answers.{Means}
use Rattle.placing.specs.method.Passes.{first_stop, outcome_of, tested_from, tested}
use Rattle.placing.specs.declared.walk.Level.{Level}
use Rattle.placing.specs.declared.passes.Unplaced.{Unplaced}
use Rattle.placing.specs.declared.passes.Unplaced.TheVariants.{NoHome, Stops}
use Rattle.std.specs.Prelude.{⊤, Option, None, Some, Result, Ok, Err}
use Rattle.placing_laws.proofs.Structured.{Structured}
use Rattle.placing_laws.proofs.Walks.{walked_on, walked_nil, of_no_trigger}
use Rattle.placing_laws.proofs.Completing.{alive_begins, begins_alive, end_allowed, walked_append, last_line_lem, alive_before, allowed_last}

module _ (b : Plan) (s : Structured b) where
  -- ---- the first stop

  abbrev Alive : List ℕ → Bool → Type 0
  Alive hs v = is_alive (walked b start hs) ≡ v

  -- what a stop says of the homes seen
  data Stopped (seen : List ℕ) : Option ℕ → Type 0 where
    never : Alive seen true → Stopped seen None
    at : (k : ℕ) → 1 ≤ k → k ≤ length seen → ((j : ℕ) → j < k → Alive (take j seen) true) → Alive (take k seen) false → Stopped seen (Some k)

  front_alive : (xs ys : List ℕ) → Alive (xs ++ ys) true → Alive xs true
  front_alive xs ys h = alive_before b s (walked b start xs) ys (sym (ap is_alive (walked_append b s start xs ys)) ∙ h)

  prefix_alive : (j : ℕ) (hs : List ℕ) → Alive hs true → Alive (take j hs) true
  prefix_alive j hs h = front_alive (take j hs) (drop j hs) (ap (λ (xs : List ℕ). is_alive (walked b start xs)) (take-append-drop j hs) ∙ h)

  stopped_on : (seen : List ℕ) (h : ℕ) (stop : Option ℕ) → Stopped seen stop → (v : Bool) → Alive (seen ++ (h ∷ [])) v → Stopped (seen ++ (h ∷ [])) (first_stop stop v (suc (length seen)))
  stopped_on seen h stop (never a) true e = never e
  stopped_on seen h stop (never a) false e =
      at (suc (length seen)) (omega arith) (omega (arith, length-append seen (h ∷ [])))
      (λ j i. subst (λ (xs : List ℕ). Alive xs true) (sym (take-append-le j seen (h ∷ []) (omega arith))) (prefix_alive j seen a))
      (subst (λ (xs : List ℕ). Alive xs false) (sym (take_all (suc (length seen)) (seen ++ (h ∷ [])) (omega (arith, length-append seen (h ∷ []))))) e)
  stopped_on seen h stop (at k one within lives dies) v e =
      at k one (omega (arith, length-append seen (h ∷ [])))
      (λ j i. subst (λ (xs : List ℕ). Alive xs true) (sym (take-append-le j seen (h ∷ []) (omega arith))) (lives j i))
      (subst (λ (xs : List ℕ). Alive xs false) (sym (take-append-le k seen (h ∷ []) within)) dies)

  -- ---- homes, and the first segment without one

  one_more_lem : (seen : List ℕ) (h : ℕ) → length (seen ++ (h ∷ [])) ≡ suc (length seen)
  one_more_lem seen h = length-append seen (h ∷ []) ∙ omega arith

  have_one_more : (seen : List ℕ) (h : ℕ) → (h ≡ 0 → ⊥) → HaveHomes seen → HaveHomes (seen ++ (h ∷ []))
  have_one_more seen h n all j i =
      dite (dec_lt j (length seen))
      (λ l. subst (λ (x : ℕ). 0 < x) (sym (get_or-append seen (h ∷ []) 0 j l)) (all j l))
      (λ l. let e : length seen ≡ j = omega (arith, one_more_lem seen h) in subst (λ (x : ℕ). 0 < get_or (seen ++ (h ∷ [])) x 0) e (subst (λ (x : ℕ). 0 < x) (sym (get_or-append_seam seen h [] 0)) (omega arith)))

  first_here : (seen : List ℕ) (h : ℕ) (hs : List ℕ) → h ≡ 0 → HaveHomes seen → FirstWithout (seen ++ (h ∷ hs)) (suc (length seen))
  first_here seen h hs z all =
      record {
        some = omega arith;
        within = omega (arith, length-append seen (h ∷ hs));
        there = let e : suc (length seen) - 1 ≡ length seen = omega arith in ap (λ (x : ℕ). get_or (seen ++ (h ∷ hs)) x 0) e ∙ get_or-append_seam seen h hs 0 ∙ z;
        before = λ j i. subst (λ (x : ℕ). 0 < x) (sym (get_or-append seen (h ∷ hs) 0 j (omega arith))) (all j (omega arith));
      }

  -- ---- the answer

  answer : (seen : List ℕ) (stop : Option ℕ) → HaveHomes seen → Stopped seen stop → Means b seen (outcome_of stop)
  answer seen stop all (never a) = (all, alive_begins b s seen a)
  answer seen stop all (at k one within lives dies) = (
    all,
    record {
      some = one;
      within = within;
      shorter = λ j i. alive_begins b s (take j seen) (lives j i);
      stops = λ g. false≢true (sym dies ∙ begins_alive b s (take k seen) g);
    },
  )

  tested_nil : (seen : List ℕ) (stop : Option ℕ) (k : ℕ) → tested_from b seen stop k [] ≡ outcome_of stop
  unfolding tested_from
  tested_nil seen stop k = refl

  tested_cons : (seen : List ℕ) (stop : Option ℕ) (k h : ℕ) (hs : List ℕ) → tested_from b seen stop k (h ∷ hs)
      ≡ cond (eqb h 0) (Err (NoHome (suc k))) (tested_from b (seen ++ (h ∷ [])) (first_stop stop (is_alive (walked b start (seen ++ (h ∷ [])))) (suc k)) (suc k) hs)
  unfolding tested_from
  tested_cons seen stop k h hs = refl

  means : (hs seen : List ℕ) (stop : Option ℕ) → HaveHomes seen → Stopped seen stop → Means b (seen ++ hs) (tested_from b seen stop (length seen) hs)
  means [] seen stop all so =
      subst (λ (xs : List ℕ). Means b xs (tested_from b seen stop (length seen) [])) (sym (append-nil seen))
      (subst (λ (x : Result ⊤ Unplaced). Means b seen x) (sym (tested_nil seen stop (length seen))) (answer seen stop all so))
  means (h ∷ hs) seen stop all so =
      subst (λ (x : Result ⊤ Unplaced). Means b (seen ++ (h ∷ hs)) x) (sym (tested_cons seen stop (length seen) h hs)) (go (eqb h 0) refl (means hs (seen ++ (h ∷ []))))
    where
      rest : ℕ → Result ⊤ Unplaced
      rest k = tested_from b (seen ++ (h ∷ [])) (first_stop stop (is_alive (walked b start (seen ++ (h ∷ [])))) (suc (length seen))) k hs

      go : (v : Bool) → eqb h 0 ≡ v
          → ((next : Option ℕ) → HaveHomes (seen ++ (h ∷ [])) → Stopped (seen ++ (h ∷ [])) next → Means b ((seen ++ (h ∷ [])) ++ hs) (tested_from b (seen ++ (h ∷ [])) next (length (seen ++ (h ∷ []))) hs))
          → Means b (seen ++ (h ∷ hs)) (cond v (Err (NoHome (suc (length seen)))) (rest (suc (length seen))))
      go true e ih = first_here seen h hs (eqb-true h 0 e) all
      go false e ih =
          subst (λ (xs : List ℕ). Means b xs (rest (suc (length seen)))) (append_assoc seen (h ∷ []) hs)
          (subst (λ (k : ℕ). Means b ((seen ++ (h ∷ [])) ++ hs) (rest k)) (one_more_lem seen h)
          (ih (first_stop stop (is_alive (walked b start (seen ++ (h ∷ [])))) (suc (length seen))) (have_one_more seen h (eqb-false h 0 e) all)
          (stopped_on seen h stop so (is_alive (walked b start (seen ++ (h ∷ [])))) refl)))

  -- the law: each answer says what 01's numbers 10 and 11 say
  pub test_means : (hs : List ℕ) → Means b hs (tested b hs)
  test_means hs = means hs [] None (λ j i. absurd (omega arith)) (never (ap is_alive (walked_nil b s start)))

  -- ---- allowed homes are those that begin an allowed sequence and end on the last line

  at_last : (vs : List Level) → is_alive (advanced b vs b.lines) ≡ true → is_at_end b (advanced b vs b.lines) ≡ true
  unfolding advanced target stacked
  at_last vs h = go (is_placeable b b.lines && admits b vs (target b b.lines)) refl h
    where
      e : is_trigger b b.lines ≡ false
      e = of_no_trigger b s 0 b.lines (last_line_lem b s)

      go : (v : Bool) → (is_placeable b b.lines && admits b vs (target b b.lines)) ≡ v
          → is_alive (cond v (stacked (b.depth (target b b.lines)) vs (target b b.lines) ++ entered (is_trigger b b.lines) b.lines) []) ≡ true
          → is_at_end b (cond v (stacked (b.depth (target b b.lines)) vs (target b b.lines) ++ entered (is_trigger b b.lines) b.lines) []) ≡ true
      go true k a = simp (e, s.last.root) (eq-eqb b.lines b.lines refl)
      go false k a = absurd (false≢true a)

  pub ends_allowed : (hs : List ℕ) → placement.Begins b (hs ++ (b.lines ∷ [])) → Allowed b (hs ++ (b.lines ∷ []))
  ends_allowed hs g =
      let e : walked b start (hs ++ (b.lines ∷ [])) ≡ advanced b (walked b start hs) b.lines =
      walked_append b s start hs (b.lines ∷ []) ∙ walked_on b s (walked b start hs) b.lines [] ∙ walked_nil b s (advanced b (walked b start hs) b.lines) in
      end_allowed b s (hs ++ (b.lines ∷ []))
      (ap (is_at_end b) e ∙ at_last (walked b start hs) (sym (ap is_alive e) ∙ begins_alive b s (hs ++ (b.lines ∷ [])) g))

  -- they end on the last line
  pub record EndsOnLast (hs : List ℕ) : Type 0 where
    pub front : List ℕ
    pub same : hs ≡ front ++ (b.lines ∷ [])

  -- the law
  pub allowed_ends : (hs : List ℕ) → (placement.Begins b hs × EndsOnLast hs) ↔ Allowed b hs
  allowed_ends hs = (to, from)
    where
      to : placement.Begins b hs × EndsOnLast hs → Allowed b hs
      to (g, e) = subst (Allowed b) (sym e.same) (ends_allowed e.front (subst (placement.Begins b) e.same g))

      from : Allowed b hs → placement.Begins b hs × EndsOnLast hs
      from t = let l = allowed_last b s hs t in (([], subst (Allowed b) (sym (append-nil hs)) t), record { front = l.0; same = l.1 })

  -- ---- each answer exactly when

  begins_front : (k : ℕ) (hs : List ℕ) → placement.Begins b hs → placement.Begins b (take k hs)
  begins_front k hs g =
      (drop k hs ++ g.0, subst (Allowed b) (ap (λ (xs : List ℕ). xs ++ g.0) (sym (take-append-drop k hs)) ∙ append_assoc (take k hs) (drop k hs) g.0) g.1)

  one_without : (hs : List ℕ) (j k : ℕ) → FirstWithout hs j → FirstWithout hs k → j < k → ⊥
  one_without hs j k x y h =
      let a = x.some in let z = x.there in let n = y.before (j - 1) (omega arith) in omega arith

  all_have : (hs : List ℕ) (k : ℕ) → HaveHomes hs → FirstWithout hs k → ⊥
  all_have hs k all x = let a = x.some in let w = x.within in let z = x.there in let n = all (k - 1) (omega arith) in omega arith

  one_stop : (hs : List ℕ) (j k : ℕ) → placement.Stops b hs j → placement.Stops b hs k → j < k → ⊥
  one_stop hs j k x y h = x.stops (y.shorter j h)

  same_number : {P : ℕ → Type 0} (j k : ℕ) → ((x y : ℕ) → P x → P y → x < y → ⊥) → P j → P k → j ≡ k
  same_number j k one p q = dite (dec_lt j k) (λ h. absurd (one j k p q h)) (λ h. dite (dec_lt k j) (λ l. absurd (one k j q p l)) (λ l. omega arith))

  -- no two answers can both be true of some homes
  pub one_meaning : (hs : List ℕ) (x y : Result ⊤ Unplaced) → Means b hs x → Means b hs y → x ≡ y
  one_meaning hs (Ok x) (Ok y) m n = refl
  one_meaning hs (Ok x) (Err (NoHome k)) m n = absurd (all_have hs k m.0 n)
  one_meaning hs (Ok x) (Err (Stops k)) m n = absurd (n.1.stops (begins_front k hs m.1))
  one_meaning hs (Err (NoHome j)) (Ok y) m n = absurd (all_have hs j n.0 m)
  one_meaning hs (Err (NoHome j)) (Err (NoHome k)) m n = ap (λ (i : ℕ). Err (NoHome i)) (same_number {P = FirstWithout hs} j k (one_without hs) m n)
  one_meaning hs (Err (NoHome j)) (Err (Stops k)) m n = absurd (all_have hs j n.0 m)
  one_meaning hs (Err (Stops j)) (Ok y) m n = absurd (m.1.stops (begins_front j hs n.1))
  one_meaning hs (Err (Stops j)) (Err (NoHome k)) m n = absurd (all_have hs k m.0 n)
  one_meaning hs (Err (Stops j)) (Err (Stops k)) m n = ap (λ (i : ℕ). Err (Stops i)) (same_number {P = placement.Stops b hs} j k (one_stop hs) m.1 n.1)

  -- so each answer is given exactly when it is true
  pub test_exactly : (hs : List ℕ) (x : Result ⊤ Unplaced) → (tested b hs ≡ x) ↔ Means b hs x
  test_exactly hs x = (λ e. subst (Means b hs) e (test_means hs), λ m. one_meaning hs (tested b hs) x (test_means hs) m)

  -- and of homes that end on the last line, as number 7 leaves them: 01's "homes not allowed"
  pub tested_allowed : (hs : List ℕ) → EndsOnLast hs → (tested b hs ≡ Ok tt) ↔ (HaveHomes hs × Allowed b hs)
  tested_allowed hs e = (
    λ h. let m = (test_exactly hs (Ok tt)).0 h in (m.0, (allowed_ends hs).0 (m.1, e)),
    λ m. (test_exactly hs (Ok tt)).1 (m.0, ((allowed_ends hs).1 m.1).0),
  )
