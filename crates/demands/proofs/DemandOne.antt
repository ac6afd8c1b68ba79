-- Demand 1: a refusal changes no table; every other answer leaves the message's tree in them, the same whatever is known.
use Prim.Native.Nat.{ℕ, zero, suc, ◌≤◌, ◌<◌}
use native.Mathlib.Omega.{arith}
use mathlib.Core.Path.{◌≡◌, refl, sym, ap, ◌∙◌}
use mathlib.Core.List.{List, [], ◌∷◌, ◌++◌}
use mathlib.Core.Bool.{Bool, true, false, true≢false, cond}
use lib.Dec.{eqb}
use lib.ListN.{length, drop}
use borrow.Author.Tests.{eqb-true, eqb-false}
use Rattle.guide.specs.meaning.Guide.{guide_of}
use Rattle.book.specs.meaning.GoodBook.{GoodBook}
use Rattle.reading.specs.meaning.Service.{GoodService}
use Rattle.reading.specs.meaning.Message.{Message}
use Rattle.reading.specs.meaning.WellFormed.{WellFormed}
use Rattle.reading.specs.method.Outcome.{Outcome, Segments, BadAt}
use Rattle.reading.specs.declared.service.Service.{Service}
use Rattle.reading_laws.proofs.Accepting.{accepts}
use Rattle.guide.specs.meaning.View.{line_of}
use Rattle.placing.specs.meaning.Fitting.{fits, home_of, homes_in}
use Rattle.placing.specs.meaning.Answers.{HaveHomes}
use Rattle.reading.specs.method.Starts.{starts_table}
use Rattle.placing.specs.method.Passes.{homes_table, parents_table}
use Rattle.placing_laws.proofs.Homes.{home_fits}
use Rattle.placing_laws.proofs.Messages.{starts_table_lem, homes_table_lem, parents_table_lem}
use Rattle.judging.specs.meaning.Tables.{is_refusal, Tables, room_of}
use Rattle.judging.specs.method.Table.{refusal, unless_refused, judged, tables_after}
use Rattle.demands.specs.meaning.Demands.{Fit, HoldTree, Demand1}
use Rattle.framing.specs.declared.message.Room.{Room}
use Rattle.framing.specs.declared.verdict.Verdict.{Verdict}
use Rattle.demands.proofs.NotRefused.{Clear, clear}
use Rattle.judging.proofs.Decided.{low_refusal, refusal_number, not_refused, placed_number}
use Rattle.demands.proofs.RowsOnTree.{entries_are}
use Rattle.demands.proofs.DemandThree.{refused_is, placed_is, same_refusal, fills_learns}
use Rattle.rules.specs.meaning.Conditions.{Fills, Learns}

-- ---- homes are lines that the segments fit

pub homes_fit : (s : Service) (book : List ℕ) → GoodBook book → (m : Message) → HaveHomes (homes_in book m) → Fit s book m (homes_in book m)
homes_fit s book good [] a = tt
homes_fit s book good (x ∷ xs) a =
    let h = go (home_of (guide_of book) x) refl (a 0 (omega arith)) in (h.0, h.1, h.2, homes_fit s book good xs (λ j i. a (suc j) (omega arith)))
  where
    go : (l : ℕ) → home_of (guide_of book) x ≡ l → 0 < l → (1 ≤ l) × (l ≤ (guide_of book).lines) × (fits (line_of (guide_of book) l) x ≡ true)
    go zero e i = absurd (omega arith)
    go (suc l) e i = let f = home_fits book good x l e in (omega arith, f.0, f.1)

one_count : (s : Service) → GoodService s → (bs : List ℕ) (x y : WellFormed s bs) → length x.message ≡ length y.message
one_count s service bs x y = ap count (sym (accepts s service bs x) ∙ accepts s service bs y)
  where
    count : Outcome → ℕ
    count (Segments n) = n
    count (BadAt n) = 0

refused : (v : Verdict) (before after : List ℕ) → is_refusal v.number ≡ true → unless_refused v before after ≡ before
refused v before after e = ap (λ (b : Bool). cond b before after) e

module _ (s : Service) (service : GoodService s) (bs book : List ℕ) (t : Tables) where
  abbrev room : Room
  room = room_of t

  abbrev at : List ℕ → ℕ
  at cs = (refusal s bs book cs room).place.at

  module _ (cs : List ℕ) (no-refusal : is_refusal (judged s bs book cs room).number ≡ false) where
    clear_number : (refusal s bs book cs room).number ≡ 0
    clear_number = go (eqb (refusal s bs book cs room).number 0) refl
      where
        go : (b : Bool) → eqb (refusal s bs book cs room).number 0 ≡ b → (refusal s bs book cs room).number ≡ 0
        go true e = eqb-true (refusal s bs book cs room).number 0 e
        go false e =
            let n = eqb-false (refusal s bs book cs room).number 0 e in
            absurd (true≢false (sym (refusal_number (refusal s bs book cs room).number n (low_refusal s bs book cs room)) ∙ ap (λ (v : Verdict). is_refusal v.number) (sym (refused_is s bs book room cs n)) ∙ no-refusal))

    c : Clear s bs book room (refusal s bs book cs room)
    c = clear s service bs book cs room clear_number

    count : at cs ≡ length c.well_formed.message
    count = ap (λ (v : Verdict). v.place.at) c.same

    written : (before after : List ℕ) → unless_refused (judged s bs book cs room) before after ≡ after
    written before after = sym (not_refused (judged s bs book cs room) before after no-refusal)

    holds : HoldTree s bs book t (tables_after s bs book cs t)
    holds =
        record {
          well_formed = c.well_formed;
          placed_on = homes_in book c.well_formed.message;
          fit = homes_fit s book c.good c.well_formed.message c.have_homes;
          placed = c.placed;
          starts =
              written t.starts (starts_table s bs (at cs) t.starts) ∙ ap (λ (k : ℕ). starts_table s bs k t.starts) count
              ∙ starts_table_lem s service bs c.well_formed book c.good t.starts c.roomy.starts
              ∙ ap (λ (xs : List ℕ). xs ++ drop (length c.well_formed.message) t.starts) (entries_are s service bs c.well_formed c.within);
          homes =
              written t.homes (homes_table s bs book (at cs) t.homes) ∙ ap (λ (k : ℕ). homes_table s bs book k t.homes) count
              ∙ homes_table_lem s service bs c.well_formed book c.good t.homes c.roomy.homes;
          parents =
              written t.parents (parents_table s bs book (at cs) t.parents) ∙ ap (λ (k : ℕ). parents_table s bs book k t.parents) count
              ∙ parents_table_lem s service bs c.well_formed book c.good c.placed t.parents c.roomy.parents;
        }

  same_tables : (cs ds : List ℕ) (x : is_refusal (judged s bs book cs room).number ≡ false) (y : is_refusal (judged s bs book ds room).number ≡ false) → tables_after s bs book cs t ≡ tables_after s bs book ds t
  same_tables cs ds x y i =
      record {
        starts = (written cs x t.starts (starts_table s bs (at cs) t.starts) ∙ ap (λ (k : ℕ). starts_table s bs k t.starts) counts ∙ sym (written ds y t.starts (starts_table s bs (at ds) t.starts))) i;
        homes = (written cs x t.homes (homes_table s bs book (at cs) t.homes) ∙ ap (λ (k : ℕ). homes_table s bs book k t.homes) counts ∙ sym (written ds y t.homes (homes_table s bs book (at ds) t.homes))) i;
        parents =
            (written cs x t.parents (parents_table s bs book (at cs) t.parents) ∙ ap (λ (k : ℕ). parents_table s bs book k t.parents) counts
            ∙ sym (written ds y t.parents (parents_table s bs book (at ds) t.parents))) i;
      }
    where
      counts : at cs ≡ at ds
      counts = count cs x ∙ one_count s service bs (c cs x).well_formed (c ds y).well_formed ∙ sym (count ds y)

  untouched : (cs : List ℕ) → is_refusal (judged s bs book cs room).number ≡ true → tables_after s bs book cs t ≡ t
  untouched cs e i =
      record {
        starts = refused (judged s bs book cs room) t.starts (starts_table s bs (at cs) t.starts) e i;
        homes = refused (judged s bs book cs room) t.homes (homes_table s bs book (at cs) t.homes) e i;
        parents = refused (judged s bs book cs room) t.parents (parents_table s bs book (at cs) t.parents) e i;
      }

  -- ---- the tables by the refusal alone, which is the same for lists of which one knows more

  refused_as : (cs : List ℕ) → is_refusal (judged s bs book cs room).number ≡ is_refusal (refusal s bs book cs room).number
  refused_as cs = go (eqb (refusal s bs book cs room).number 0) refl
    where
      go : (b : Bool) → eqb (refusal s bs book cs room).number 0 ≡ b → is_refusal (judged s bs book cs room).number ≡ is_refusal (refusal s bs book cs room).number
      go true e =
          let z = eqb-true (refusal s bs book cs room).number 0 e in
          ap (λ (v : Verdict). is_refusal v.number) (placed_is s bs book room cs z) ∙ placed_number s book bs cs (at cs) ∙ sym (ap is_refusal z)
      go false e = ap (λ (v : Verdict). is_refusal v.number) (refused_is s bs book room cs (eqb-false (refusal s bs book cs room).number 0 e))

  abbrev tables_by : Bool → ℕ → Tables
  tables_by refused n =
      record {
        starts = cond refused t.starts (starts_table s bs n t.starts);
        homes = cond refused t.homes (homes_table s bs book n t.homes);
        parents = cond refused t.parents (parents_table s bs book n t.parents);
      }

  same_later : (cs ds : List ℕ) → Learns cs ds → tables_after s bs book cs t ≡ tables_after s bs book ds t
  same_later cs ds h =
      ap (λ (b : Bool). tables_by b (at cs)) (refused_as cs)
      ∙ ap (λ (v : Verdict). tables_by (is_refusal v.number) v.place.at) (sym (same_refusal s bs book room cs ds h))
      ∙ ap (λ (b : Bool). tables_by b (at ds)) (sym (refused_as ds))

  same_filled : (cs fs hs : List ℕ) → Fills cs fs → Fills cs hs → tables_after s bs book fs t ≡ tables_after s bs book hs t
  same_filled cs fs hs f h = sym (same_later cs fs (fills_learns cs fs f)) ∙ same_later cs hs (fills_learns cs hs h)

  pub demand_1 : Demand1 s bs book t
  demand_1 = record { untouched = untouched; tree = λ cs x. holds cs x; same_tree = same_tables; same_later = same_later; same_filled = same_filled }
