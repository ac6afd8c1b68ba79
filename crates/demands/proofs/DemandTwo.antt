-- Demand 2: each number exactly when its row of the table holds and no earlier one does; and number 0, with known conditions, exactly
-- when the message can be placed so that every condition holds.
use Prim.Native.Nat.{ℕ, zero, suc, ◌<◌}
use native.Mathlib.Omega.{arith}
use mathlib.Core.Path.{◌≡◌, refl, sym, ap, ap₂, ◌∙◌, subst}
use mathlib.Core.List.{List, [], ◌∷◌}
use mathlib.Core.Bool.{Bool, true, false, true≢false}
use mathlib.Core.Logic.{◌↔◌, inl, inr}
use lib.ListN.{length, get_or}
use borrow.Author.Tests.{ne_eqb}
use Rattle.guide.specs.meaning.Guide.{guide_of}
use Rattle.book.specs.meaning.GoodBook.{GoodBook}
use Rattle.reading.specs.meaning.Service.{All, GoodService}
use Rattle.reading.specs.meaning.Message.{Message, write_segments, render}
use Rattle.reading.specs.meaning.WellFormed.{WellFormed}
use Rattle.reading.specs.declared.service.Service.{Service}
use Rattle.guide.specs.meaning.Plan.{plan_in}
use Rattle.placing.specs.meaning.Fitting.{homes_in}
use Rattle.placing.specs.meaning.Placement.{parents_of}
use Rattle.placing_laws.proofs.Homes.{fits_home}
use Rattle.fields.specs.meaning.Number.{GoodMark}
use Rattle.rules.specs.meaning.Conditions.{Assignment, is_unknown, told, Filling}
use Rattle.rules.specs.meaning.Entries.{Entry, entries_of, SomeBreaks}
use Rattle.rules_laws.proofs.Fillings.{Agree}
use Rattle.rules_laws.proofs.Keys.{Looks, looks}
use Rattle.rules_laws.proofs.OnTree.{rules_on_tree}
use Rattle.framing.specs.meaning.Record.{answer}
use Rattle.judging.specs.method.Table.{judged}
use Rattle.framing.specs.meaning.Table.{NoneWrong, Misplaced, TellsCount, TellsReference, MessageSays}
use Rattle.demands.specs.meaning.Table.{FitConditions, RowsSay, PlacedSays, HomesSay, TableSays}
use Rattle.demands.specs.meaning.Demands.{Fit, Accepted, WithinLimits, Demand2}
use Rattle.framing.specs.declared.message.Room.{Room}
use Rattle.framing.specs.declared.verdict.Verdict.{Verdict}
use Rattle.demands.proofs.TableTells.{table_tells}
use Rattle.demands.proofs.PlacedTells.{placed_have, placed_tells}
use Rattle.demands.proofs.DemandOne.{homes_fit}

-- ---- known conditions have one filling

known_byte : (cs : List ℕ) → All (λ c. c < 2) cs → (k : ℕ) → get_or cs k 0 < 2
known_byte [] a k = omega arith
known_byte (c ∷ cs) a zero = a.0
known_byte (c ∷ cs) a (suc k) = known_byte cs a.1 k

known : (cs : List ℕ) → All (λ c. c < 2) cs → (k : ℕ) → is_unknown cs k ≡ false
known cs a zero = refl
known cs a (suc k) = ne_eqb (get_or cs k 0) 2 (λ e. let h = known_byte cs a k in omega arith)

agrees : (cs : List ℕ) → All (λ c. c < 2) cs → (a : Assignment) → Filling cs a → (ks : List ℕ) → Agree ks a (told cs)
agrees cs h a f [] = tt
agrees cs h a f (k ∷ ks) = (f k (known cs h k), agrees cs h a f ks)

-- ---- number 0 is no fault

not_zero : (n : ℕ) (v : Verdict) → answer 0 n ≡ v → 0 < v.number → ⊥
not_zero n v e h = let z = ap (λ (x : Verdict). x.number) e in omega arith

module _ (cs : List ℕ) (n count : ℕ) where
  -- rows that say number 0 are kept under what is told
  rows_kept : (es : List Entry) → RowsSay cs count es (answer 0 n) → All (λ e. e.is_broken_by (told cs) ≡ false) es × (count ≡ n)
  rows_kept [] e = (tt, sym (ap (λ (v : Verdict). v.place.at) e))
  rows_kept (e ∷ es) (inl (b, inl (a, h))) = absurd (not_zero n _ h (omega arith))
  rows_kept (e ∷ es) (inl (b, inr (a, (k, l, h)))) = absurd (not_zero n _ h (omega arith))
  rows_kept (e ∷ es) (inr (b, h)) = let k = rows_kept es h in ((kept (e.is_broken_by (told cs)) refl, k.0), k.1)
    where
      kept : (x : Bool) → e.is_broken_by (told cs) ≡ x → x ≡ false
      kept true i = absurd (b (record { filling = told cs; fills = λ j o. refl; breaks = i }))
      kept false i = refl

  -- and the other way round, where nothing is unknown
  kept_rows : All (λ c. c < 2) cs → (es : List Entry) → All Looks es → All (λ e. e.is_broken_by (told cs) ≡ false) es → RowsSay cs n es (answer 0 n)
  kept_rows h [] l a = refl
  kept_rows h (e ∷ es) l a = inr (none, kept_rows h es l.1 a.1)
    where
      none : SomeBreaks cs e → ⊥
      none b = true≢false (sym b.breaks ∙ l.0 b.filling (told cs) (agrees cs h b.filling b.fills e.conditions) ∙ a.0)

-- ---- a message has bytes

some_bytes : (s : Service) (m : Message) → 0 < length m → 0 < length (render s m)
unfolding write_segments
some_bytes s [] h = absurd (omega arith)
some_bytes s (g ∷ gs) h = omega arith

-- ---- the lines that segments fit are their homes

fit_homes : (s : Service) (book : List ℕ) → GoodBook book → (m : Message) (hs : List ℕ) → Fit s book m hs → homes_in book m ≡ hs
fit_homes s book good [] [] f = refl
fit_homes s book good [] (h ∷ hs) f = absurd f
fit_homes s book good (x ∷ xs) [] f = absurd f
fit_homes s book good (x ∷ xs) (h ∷ hs) f = ap₂ (λ (y : ℕ) (ys : List ℕ). y ∷ ys) (fits_home book good x h f.0 f.1 f.2) (fit_homes s book good xs hs f.3)

module _ (s : Service) (service : GoodService s) (mark : GoodMark s) (bs book cs : List ℕ) (room : Room) where
  fault : (v : Verdict) → (judged s bs book cs room ≡ v) ↔ TableSays s bs book cs room v
  fault v = table_tells s service bs book cs room v (λ good sized w t. placed_tells s service mark bs book cs room v good w t)

  module _ (good : GoodBook book) (n : ℕ) where
    -- ---- what number 0 says

    module _ (w : WellFormed s bs) where
      from-homes : NoneWrong (Misplaced (length w.message)) 0 w.message → TellsCount w.message → TellsReference w.message
          → HomesSay s bs book cs room w.message (homes_in book w.message) (answer 0 n) → Accepted s bs book (told cs) n
      from-homes framed count reference (inl (k, f, e)) = absurd (not_zero n _ e (omega arith))
      from-homes framed count reference (inr (have, inl (k, f, e))) = absurd (not_zero n _ e (omega arith))
      from-homes framed count reference (inr (have, inr (t, inl (p, f, e)))) = absurd (not_zero n _ e (omega arith))
      from-homes framed count reference (inr (have, inr (t, inr (none, (k, value, carries, inl (o, e)))))) = absurd (not_zero n _ e (omega arith))
      from-homes framed count reference (inr (have, inr (t, inr (none, (k, value, carries, inr (p, i, rows)))))) =
          let r = rows_kept cs n (length w.message) (entries_of (guide_of book) p (homes_in book w.message) (parents_of t.tree)) rows in
          record {
            well_formed = w;
            count = r.1;
            framed = subst (λ (x : ℕ). NoneWrong (Misplaced x) 0 w.message) r.1 framed;
            tells_count = count;
            tells_reference = reference;
            placed_on = homes_in book w.message;
            fit = homes_fit s book good w.message have;
            placed = t;
            fields = none;
            place = k;
            value = value;
            carries = carries;
            identifier = p;
            in_book = i;
            rules = (rules_on_tree book good p (told cs) (homes_in book w.message) t).1 r.0;
          }

      from_message : MessageSays s bs room (λ x. HomesSay s bs book cs room x (homes_in book x)) w.message (answer 0 n) → Accepted s bs book (told cs) n
      from_message (inl (x, e)) = absurd (not_zero n _ e (omega arith))
      from_message (inr (few, inl (x, e))) = absurd (not_zero n _ e (omega arith))
      from_message (inr (few, inr (roomy, inl (k, f, e)))) = absurd (not_zero n _ e (omega arith))
      from_message (inr (few, inr (roomy, inr (framed, inl (x, e))))) = absurd (not_zero n _ e (omega arith))
      from_message (inr (few, inr (roomy, inr (framed, inr (count, inl (x, e)))))) = absurd (not_zero n _ e (omega arith))
      from_message (inr (few, inr (roomy, inr (framed, inr (count, inr (reference, homes)))))) = from-homes framed count reference homes

    from_table : TableSays s bs book cs room (answer 0 n) → Accepted s bs book (told cs) n
    from_table (inl (x, e)) = absurd (not_zero n _ e (omega arith))
    from_table (inr (g, inl (x, e))) = absurd (not_zero n _ e (omega arith))
    from_table (inr (g, inr (fit, inl (x, e)))) = absurd (not_zero n _ e (omega arith))
    from_table (inr (g, inr (fit, inr (sized, inl (k, f, e))))) = absurd (not_zero n _ e (omega arith))
    from_table (inr (g, inr (fit, inr (sized, inr (w, m))))) = from_message w m

    -- ---- what is accepted says number 0

    module _ (fit : FitConditions (guide_of book) cs) (known-all : All (λ c. c < 2) cs) (limits : WithinLimits s bs room) (a : Accepted s bs book (told cs) n) where
      abbrev w : WellFormed s bs
      w = a.well_formed

      homes-are : homes_in book w.message ≡ a.placed_on
      homes-are = fit_homes s book good w.message a.placed_on a.fit

      placed-says : PlacedSays s bs book cs room w.message a.placed_on (parents_of a.placed.tree) (answer 0 n)
      placed-says =
          inr (
            a.fields,
            (
              a.place,
              a.value,
              a.carries,
              inr (
                a.identifier,
                a.in_book,
                subst (λ (x : ℕ). RowsSay cs x (entries_of (guide_of book) a.identifier a.placed_on (parents_of a.placed.tree)) (answer 0 n)) (sym a.count)
                    (kept_rows cs n n known-all (entries_of (guide_of book) a.identifier a.placed_on (parents_of a.placed.tree))
                    (looks (guide_of book) a.identifier a.placed_on (parents_of a.placed.tree))
                    ((rules_on_tree book good a.identifier (told cs) a.placed_on a.placed).0 a.rules)),
              ),
            ),
          )

      homes_say : HomesSay s bs book cs room w.message (homes_in book w.message) (answer 0 n)
      homes_say =
          subst (λ (xs : List ℕ). HomesSay s bs book cs room w.message xs (answer 0 n)) (sym homes-are)
          (inr (placed_have (plan_in book) a.placed_on a.placed, inr (a.placed, placed-says)))

      to-table : TableSays s bs book cs room (answer 0 n)
      to-table =
          let l = limits.segments w in
          let some : 0 < length bs = subst (λ (xs : List ℕ). 0 < length xs) (sym w.same) (some_bytes s w.message w.valid.non_empty) in
          inr (
            good,
            inr (
              fit,
              inr (
                record { some = some; within = limits.bytes },
                inr (
                  w,
                  inr (
                    l.0,
                    inr (
                      l.1,
                      inr (
                        subst (λ (x : ℕ). NoneWrong (Misplaced x) 0 w.message) (sym a.count) a.framed,
                        inr (a.tells_count, inr (a.tells_reference, homes_say)),
                      ),
                    ),
                  ),
                ),
              ),
            ),
          )

  pub demand_2 : Demand2 s bs book cs room
  demand_2 =
      record {
        accepted = λ good fit known-all limits n. (λ e. from_table good n ((fault (answer 0 n)).0 e), λ a. (fault (answer 0 n)).1 (to-table good n fit known-all limits a));
        fault = fault;
      }
