-- Demand 3: numbers 1 to 13 do not look at the conditions but for number 2, which sees no difference between a list and its fillings;
-- and the rows keep the demand (rules_laws/proofs/SureOrOpen.antt).
use Prim.Native.Nat.{ℕ, suc}
use native.Mathlib.Omega.{arith}
use mathlib.Core.Path.{◌≡◌, refl, sym, ap, ap₂, ◌∙◌}
use mathlib.Core.List.{List, [], ◌∷◌}
use mathlib.Core.Bool.{Bool, true, false, cond, ◌&&◌}
use mathlib.Core.Logic.{◌↔◌}
use lib.Dec.{eqb, leb}
use lib.ListN.{length}
use borrow.Author.Tests.{eqb-true, eqb-false, eq-eqb, ne_eqb, le-leb}
use Rattle.guide.specs.meaning.Guide.{guide_of}
use Rattle.book.specs.meaning.GoodBook.{GoodBook}
use Rattle.reading.specs.declared.service.Service.{Service}
use Rattle.reading.specs.method.Starts.{starts_from}
use Rattle.placing.specs.method.Passes.{homes_from}
use Rattle.fields.specs.method.Testing.{first_fault}
use Rattle.std.specs.Prelude.{⊤, Option, Some, None, Result, Ok, Err}
use Rattle.fields.specs.declared.passes.FirstFault.{FirstFault}
use Rattle.rules.specs.meaning.Conditions.{Chosen, Fills, Learned, Learns}
use Rattle.rules_laws.specs.laws.FirstFound.{first_row}
use Rattle.rules.specs.method.Identifiers.{identified}
use Rattle.rules.specs.method.Scanning.{Outcome}
use Rattle.rules.specs.declared.finding.Finding.TheVariants.{Broken, Unsettled}
use Rattle.rules_laws.proofs.SureOrOpen.{IsUnsettled, settled, unsettled, later, inhabited}
use Rattle.framing.specs.meaning.Record.{place, verdict, answer}
use Rattle.framing.specs.method.Stages.{or_else, message_stage}
use Rattle.rules.specs.method.Conditions.{are_truth_values}
use Rattle.judging.specs.method.Table.{book_stage, placing_stage, refusal, identifier_in, identifier_verdict, placed_verdict, placed_stage, judged}
use Rattle.judging.specs.method.Answers.{rows_verdict, fields_verdict}
use Rattle.demands.specs.meaning.Demands.{Demand3}
use Rattle.framing.specs.declared.message.Room.{Room}
use Rattle.framing.specs.declared.verdict.Verdict.{Verdict}
use Rattle.judging.proofs.Decided.{low_refusal}
use Rattle.demands.proofs.NotRefused.{Clear, clear}
use Rattle.demands.proofs.RowsOnTree.{rows_on_tree}
use Rattle.reading.specs.meaning.Service.{GoodService}
use Rattle.placing.specs.meaning.Fitting.{homes_in}
use Rattle.placing.specs.meaning.Placement.{parents_of}
use Rattle.placing_laws.proofs.Messages.{found_homes}
use Rattle.rules.specs.method.Scanning.{scanned_row}
use Rattle.rules_laws.proofs.Identifiers.{identified_known}

-- ---- lists that know more

learned_self : (b : Bool) (c : ℕ) → eqb c 2 ≡ b → Learned b c c
learned_self true c e = let h = eqb-true c 2 e in omega arith
learned_self false c e = refl

learns_self : (cs : List ℕ) → Learns cs cs
learns_self [] = tt
learns_self (c ∷ cs) = (learned_self (eqb c 2) c refl, learns_self cs)

chosen_learned : (b : Bool) (c f : ℕ) → Chosen b c f → Learned b c f
chosen_learned true c f h = omega arith
chosen_learned false c f h = h

pub fills_learns : (cs fs : List ℕ) → Fills cs fs → Learns cs fs
fills_learns [] [] h = tt
fills_learns [] (f ∷ fs) h = h
fills_learns (c ∷ cs) [] h = h
fills_learns (c ∷ cs) (f ∷ fs) h = (chosen_learned (eqb c 2) c f h.0, fills_learns cs fs h.1)

-- number 2 sees no difference
learns_long : (cs ds : List ℕ) → Learns cs ds → length ds ≡ length cs
learns_long [] [] h = refl
learns_long [] (d ∷ ds) h = absurd h
learns_long (c ∷ cs) [] h = absurd h
learns_long (c ∷ cs) (d ∷ ds) h = ap suc (learns_long cs ds h.1)

learned_known : (b : Bool) (c d : ℕ) → eqb c 2 ≡ b → Learned b c d → leb d 2 ≡ leb c 2
learned_known true c d e h = let z = eqb-true c 2 e in le-leb d 2 h ∙ sym (le-leb c 2 (omega arith))
learned_known false c d e h = ap (λ (x : ℕ). leb x 2) h

learns_known : (cs ds : List ℕ) → Learns cs ds → are_truth_values ds ≡ are_truth_values cs
learns_known [] [] h = refl
learns_known [] (d ∷ ds) h = absurd h
learns_known (c ∷ cs) [] h = absurd h
learns_known (c ∷ cs) (d ∷ ds) h = ap₂ ◌&&◌ (learned_known (eqb c 2) c d refl h.0) (learns_known cs ds h.1)

module _ (s : Service) (bs book : List ℕ) (room : Room) where
  pub same_refusal : (cs ds : List ℕ) → Learns cs ds → refusal s bs book ds room ≡ refusal s bs book cs room
  unfolding refusal
  same_refusal cs ds h =
      ap₂ (λ (k : ℕ) (b : Bool). or_else (book_stage book) (or_else (cond (eqb k (guide_of book).conditions && b) (answer 0 0) (answer 2 0)) (or_else (message_stage s bs room) (placing_stage s bs book (message_stage s bs room).place.at))))
      (learns_long cs ds h) (learns_known cs ds h)

-- ---- what the demand says of one list, for any way to judge lists

module _ (J : List ℕ → Verdict) (cs : List ℕ) where
  pub record Keeps : Type 0 where
    pub sure : (v : Verdict) → (v.number ≡ 15 → ⊥) → (J cs ≡ v) ↔ ((fs : List ℕ) → Fills cs fs → J fs ≡ v)
    pub unsure : ((J cs).number ≡ 15) ↔ ((fs : List ℕ) × (hs : List ℕ) × Fills cs fs × Fills cs hs × (J fs ≡ J hs → ⊥))
    pub later : (ds : List ℕ) → Learns cs ds → ((J cs).number ≡ 15 → ⊥) → J ds ≡ J cs

  -- where the conditions are not looked at
  constant : ((ds : List ℕ) → Learns cs ds → J ds ≡ J cs) → ((J cs).number ≡ 15 → ⊥) → Keeps
  constant same settles =
      record {
        sure = λ v n. (λ e fs h. same fs (fills_learns cs fs h) ∙ e, λ all. let f = inhabited cs in sym (same f.0 (fills_learns cs f.0 f.1)) ∙ all f.0 f.1);
        unsure = (λ e. absurd (settles e), λ d. absurd (d.4 (same d.0 (fills_learns cs d.0 d.2) ∙ sym (same d.1 (fills_learns cs d.1 d.3)))));
        later = λ ds h n. same ds h;
      }

-- ---- the rows

unsettled_number : (n : ℕ) (f : Outcome) → (rows_verdict n f).number ≡ 15 → IsUnsettled f
unsettled_number n (Ok _) e = absurd (omega arith)
unsettled_number n (Err (Broken k l)) e = absurd (omega arith)
unsettled_number n (Err (Unsettled k l c)) e = tt

number_unsettled : (n : ℕ) (f : Outcome) → IsUnsettled f → (rows_verdict n f).number ≡ 15
number_unsettled n (Ok _) u = absurd u
number_unsettled n (Err (Broken k l)) u = absurd u
number_unsettled n (Err (Unsettled k l c)) u = refl

-- two findings are told apart by their verdicts
one_finding : (n : ℕ) (f h : Outcome) → rows_verdict n f ≡ rows_verdict n h → f ≡ h
one_finding n (Ok _) (Ok _) e = refl
one_finding n (Ok _) (Err (Broken k l)) e = absurd (let z : 0 ≡ 14 = ap (λ (v : Verdict). v.number) e in omega arith)
one_finding n (Ok _) (Err (Unsettled k l c)) e = absurd (let z : 0 ≡ 15 = ap (λ (v : Verdict). v.number) e in omega arith)
one_finding n (Err (Broken k l)) (Ok _) e = absurd (let z : 14 ≡ 0 = ap (λ (v : Verdict). v.number) e in omega arith)
one_finding n (Err (Broken k l)) (Err (Broken i j)) e = ap₂ (λ (x y : ℕ). Err (Broken x y)) (ap (λ (v : Verdict). v.place.at) e) (ap (λ (v : Verdict). v.place.line) e)
one_finding n (Err (Broken k l)) (Err (Unsettled i j d)) e = absurd (let z : 14 ≡ 15 = ap (λ (v : Verdict). v.number) e in omega arith)
one_finding n (Err (Unsettled k l c)) (Ok _) e = absurd (let z : 15 ≡ 0 = ap (λ (v : Verdict). v.number) e in omega arith)
one_finding n (Err (Unsettled k l c)) (Err (Broken i j)) e = absurd (let z : 15 ≡ 14 = ap (λ (v : Verdict). v.number) e in omega arith)
one_finding n (Err (Unsettled k l c)) (Err (Unsettled i j d)) e =
    ap₂ (λ (x y : ℕ). Err (Unsettled x y c)) (ap (λ (v : Verdict). v.place.at) e) (ap (λ (v : Verdict). v.place.line) e) ∙ ap (λ (x : ℕ). Err (Unsettled i j x)) (ap (λ (v : Verdict). v.condition) e)

module _ (book : List ℕ) (good : GoodBook book) (p n : ℕ) (hs ps : List ℕ) (J : List ℕ → Verdict) (cs : List ℕ)
    (is : (ds : List ℕ) → Learns cs ds → J ds ≡ rows_verdict n (first_row (guide_of book) p ds hs ps)) where
  abbrev found : List ℕ → Outcome
  found ds = first_row (guide_of book) p ds hs ps

  here : J cs ≡ rows_verdict n (found cs)
  here = is cs (learns_self cs)

  filled : (fs : List ℕ) → Fills cs fs → J fs ≡ rows_verdict n (found fs)
  filled fs h = is fs (fills_learns cs fs h)

  sure_rows : (v : Verdict) → (v.number ≡ 15 → ⊥) → J cs ≡ v → (fs : List ℕ) → Fills cs fs → J fs ≡ v
  sure_rows v n e fs h =
      filled fs h
      ∙ ap (rows_verdict _) ((settled book good p hs ps cs (found cs) (λ u. n (ap (λ (x : Verdict). x.number) (sym e ∙ here) ∙ number_unsettled _ (found cs) u))).0 refl fs h)
      ∙ sym here ∙ e

  differ : IsUnsettled (found cs) → (fs : List ℕ) × (gs : List ℕ) × Fills cs fs × Fills cs gs × (J fs ≡ J gs → ⊥)
  differ u =
      let d = (unsettled book good p hs ps cs).0 u in
      (d.0, d.1, d.2, d.3, λ e. d.4 (one_finding n (found d.0) (found d.1) (sym (filled d.0 d.2) ∙ e ∙ filled d.1 d.3)))

  rows_sure : (v : Verdict) → ((fs : List ℕ) → Fills cs fs → J fs ≡ v) → J cs ≡ v
  rows_sure v all = go (found cs) refl
    where
      not-open : IsUnsettled (found cs) → ⊥
      not-open u = let d = differ u in d.4 (all d.0 d.2 ∙ sym (all d.1 d.3))

      go : (f : Outcome) → found cs ≡ f → J cs ≡ v
      go f e =
          let i = inhabited cs in
          here ∙ ap (rows_verdict n) (sym ((settled book good p hs ps cs (found cs) not-open).0 refl i.0 i.1)) ∙ sym (filled i.0 i.1) ∙ all i.0 i.1

  pub rows_keep : Keeps J cs
  rows_keep =
      record {
        sure = λ v m. (sure_rows v m, rows_sure v);
        unsure = (
          λ e. differ (unsettled_number n (found cs) (ap (λ (x : Verdict). x.number) (sym here) ∙ e)),
          λ d. ap (λ (x : Verdict). x.number) here
              ∙ number_unsettled n (found cs)
              ((unsettled book good p hs ps cs).1 (d.0, d.1, d.2, d.3, λ e. d.4 (filled d.0 d.2 ∙ ap (rows_verdict n) e ∙ sym (filled d.1 d.3)))),
        );
        later = λ ds h m.
            is ds h ∙ ap (rows_verdict n) (later book good p hs ps cs ds h (λ u. m (ap (λ (x : Verdict). x.number) here ∙ number_unsettled n (found cs) u))) ∙ sym here;
      }

-- ---- the law

module _ (s : Service) (bs book : List ℕ) (room : Room) where
  pub refused_is : (cs : List ℕ) → ((refusal s bs book cs room).number ≡ 0 → ⊥) → judged s bs book cs room ≡ refusal s bs book cs room
  unfolding judged
  refused_is cs n = rw (ne_eqb (refusal s bs book cs room).number 0 n)

  pub placed_is : (cs : List ℕ) → (refusal s bs book cs room).number ≡ 0 → judged s bs book cs room ≡ placed_stage s bs book cs (refusal s bs book cs room).place.at
  unfolding judged
  placed_is cs z = rw (eq-eqb (refusal s bs book cs room).number 0 z)

module _ (s : Service) (service : GoodService s) (bs book : List ℕ) (room : Room) where
  abbrev J : List ℕ → Verdict
  J cs = judged s bs book cs room

  module _ (cs : List ℕ) where
    refused_keep : ((refusal s bs book cs room).number ≡ 0 → ⊥) → Keeps J cs
    refused_keep n =
        constant J cs
        (λ ds h. let same = same_refusal s bs book room cs ds h in
        refused_is s bs book room ds (λ z. n (ap (λ (v : Verdict). v.number) (sym same) ∙ z)) ∙ same ∙ sym (refused_is s bs book room cs n))
        (λ e. let low = low_refusal s bs book cs room in let z = ap (λ (v : Verdict). v.number) (sym (refused_is s bs book room cs n)) ∙ e in omega arith)

    module _ (z : (refusal s bs book cs room).number ≡ 0) where
      abbrev n : ℕ
      n = (refusal s bs book cs room).place.at

      abbrev starts : List ℕ
      starts = starts_from s bs n 0

      abbrev hs : List ℕ
      hs = homes_from s bs book n 0

      each : (ds : List ℕ) → Learns cs ds → J ds ≡ placed_verdict s (guide_of book) bs ds n starts hs
      unfolding placed_stage
      each ds h =
          let same = same_refusal s bs book room cs ds h in
          placed_is s bs book room ds (ap (λ (v : Verdict). v.number) same ∙ z) ∙ ap (λ (v : Verdict). placed_stage s bs book ds v.place.at) same

      c : Clear s bs book room (refusal s bs book cs room)
      c = clear s service bs book cs room z

      homes-are : hs ≡ homes_in book c.well_formed.message
      homes-are =
          ap (λ (v : Verdict). homes_from s bs book v.place.at 0) c.same ∙ found_homes s service bs c.well_formed book c.good

      -- the rows are those of the tree, whatever is known of the conditions
      abbrev ps : List ℕ
      ps = parents_of c.placed.tree

      rows_are : (p : ℕ) → identified (guide_of book) (identifier_in s (guide_of book) bs starts hs) ≡ Some p → (ds : List ℕ)
          → scanned_row (guide_of book) p ds hs ≡ first_row (guide_of book) p ds (homes_in book c.well_formed.message) ps
      rows_are p j ds =
          ap (scanned_row (guide_of book) p ds) homes-are
          ∙ rows_on_tree s service bs book c.good c.well_formed c.placed p (identified_known (guide_of book) (identifier_in s (guide_of book) bs starts hs) p j).0 ds

      placed-keep : (f : Result ⊤ FirstFault) → first_fault s (guide_of book) bs 0 starts hs ≡ f → (i : Option ℕ) → identified (guide_of book) (identifier_in s (guide_of book) bs starts hs) ≡ i → Keeps J cs
      placed-keep (Err x) h i j =
          let fixed : (ds : List ℕ) → Learns cs ds → J ds ≡ verdict 12 (place x.place x.line x.element x.component) 0 = λ ds y. each ds y ∙ ap (λ (f : Result ⊤ FirstFault). fields_verdict f (identifier_verdict (guide_of book) ds n hs (identified (guide_of book) (identifier_in s (guide_of book) bs starts hs)))) h in
          constant J cs (λ ds x. fixed ds x ∙ sym (fixed cs (learns_self cs))) (λ y. let q = ap (λ (v : Verdict). v.number) (sym (fixed cs (learns_self cs))) ∙ y in omega arith)
      placed-keep (Ok _) h None j =
          let fixed : (ds : List ℕ) → Learns cs ds → J ds ≡ answer 13 _ = λ ds x. each ds x ∙ ap₂ (λ (f : Result ⊤ FirstFault) (i : Option ℕ). fields_verdict f (identifier_verdict (guide_of book) ds n hs i)) h j in
          constant J cs (λ ds x. fixed ds x ∙ sym (fixed cs (learns_self cs))) (λ y. let q = ap (λ (v : Verdict). v.number) (sym (fixed cs (learns_self cs))) ∙ y in omega arith)
      placed-keep (Ok _) h (Some p) j =
          rows_keep book c.good p n (homes_in book c.well_formed.message) ps J cs
          (λ ds x. each ds x ∙ ap₂ (λ (f : Result ⊤ FirstFault) (i : Option ℕ). fields_verdict f (identifier_verdict (guide_of book) ds n hs i)) h j ∙ ap (rows_verdict n) (rows_are p j ds))

    keeps : Keeps J cs
    keeps = go (eqb (refusal s bs book cs room).number 0) refl
      where
        go : (b : Bool) → eqb (refusal s bs book cs room).number 0 ≡ b → Keeps J cs
        go true e =
            placed-keep (eqb-true (refusal s bs book cs room).number 0 e) (first_fault s (guide_of book) bs 0 (starts_from s bs (refusal s bs book cs room).place.at 0) (homes_from s bs book (refusal s bs book cs room).place.at 0)) refl
            (identified (guide_of book) (identifier_in s (guide_of book) bs (starts_from s bs (refusal s bs book cs room).place.at 0) (homes_from s bs book (refusal s bs book cs room).place.at 0))) refl
        go false e = refused_keep (eqb-false (refusal s bs book cs room).number 0 e)

  pub demand_3 : Demand3 s bs book room
  demand_3 = record { sure = λ cs. (keeps cs).sure; unsure = λ cs. (keeps cs).unsure; later = λ cs ds h n. (keeps cs).later ds h n }
