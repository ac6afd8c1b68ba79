-- The passes over a well-formed message: what they find in its bytes are its segments' starts and homes; and after an allowed
-- sequence the tables hold its tree and nothing beyond is changed.
use Prim.Native.Nat.{ℕ, suc, ◌≤◌}
use mathlib.Core.Path.{◌≡◌, refl, sym, ap, ap₂, ◌∙◌, subst}
use mathlib.Core.List.{List, [], ◌∷◌, ◌++◌, map, append_assoc}
use lib.ListN.{length, drop, length-map}
use lib.Seq.{sets}
use Rattle.guide.specs.meaning.Guide.{guide_of}
use Rattle.book.specs.meaning.GoodBook.{GoodBook}
use Rattle.reading.specs.meaning.Service.{All, GoodService}
use Rattle.reading.specs.meaning.Message.{Message, ValidSegment, render}
use Rattle.reading.specs.meaning.WellFormed.{WellFormed}
use Rattle.reading.specs.declared.service.Service.{Service}
use Rattle.reading_laws.proofs.Cursors.{written_at}
use Rattle.guide.specs.meaning.Plan.{Plan, plan_in}
use Rattle.placing.specs.meaning.Fitting.{home_of, homes_in}
use Rattle.placing.specs.method.Fitting.{home_at}
use Rattle.placing.specs.meaning.Placement.{Placed, parents_of}
use Rattle.placing.specs.method.Tree.{root_only, opened_by, noted, noted_parents}
use Rattle.reading.specs.meaning.Starts.{starts_in, starts_of}
use Rattle.slices.specs.method.Entries.{entry}
use Rattle.reading.specs.method.Starts.{starts_table}
use Rattle.placing.specs.method.Passes.{homes_from, homes_table, parents_table, tested}
use Rattle.placing_laws.specs.laws.Answers.{Means}
use Rattle.reading_laws.proofs.Starts.{starts_long, found_starts}
use Rattle.placing.proofs.Passing.{filled}
use Rattle.placing_laws.proofs.Structured.{structured}
use Rattle.placing_laws.proofs.Homes.{home}
use Rattle.placing_laws.proofs.Noted.{tree}
use Rattle.placing_laws.proofs.Stopping.{test_means}

noted_long : (b : Plan) (k : ℕ) (trail hs : List ℕ) → length (noted b k trail hs) ≡ length hs
unfolding noted
noted_long b k trail [] = refl
noted_long b k trail (h ∷ hs) = ap suc (noted_long b (suc k) (opened_by b trail h (suc k)) hs)

module _ (s : Service) (service : GoodService s) where
  -- and the homes there
  homes_found : (book : List ℕ) → GoodBook book → (m before : Message) → All ValidSegment m
      → map (home_at s (guide_of book) (render s (before ++ m))) (starts_in s before m) ≡ homes_in book m
  unfolding starts_in
  homes_found book good [] before v = refl
  homes_found book good (g ∷ gs) before v =
      ap₂ (λ (x : ℕ) (xs : List ℕ). x ∷ xs)
      (home book good s service (render s (before ++ (g ∷ gs))) (length (render s before)) g (written_at s service before g gs v.0))
      (ap (λ (x : Message). map (home_at s (guide_of book) (render s x)) (starts_in s (before ++ (g ∷ [])) gs)) (sym (append_assoc before (g ∷ []) gs))
      ∙ homes_found book good gs (before ++ (g ∷ [])) v.1)

  module _ (bs : List ℕ) (w : WellFormed s bs) where
    module _ (book : List ℕ) (good : GoodBook book) where
      -- and each segment's home
      pub found_homes : homes_from s bs book (length w.message) 0 ≡ homes_in book w.message
      found_homes =
          ap (map (home_at s (guide_of book) bs)) (found_starts s service bs w) ∙ ap (λ (x : List ℕ). map (home_at s (guide_of book) x) (starts_of s w.message)) w.same
          ∙ homes_found book good w.message [] w.valid.segments

      -- the test pass: numbers 10 and 11, of the message's homes
      pub tested_message : Means (plan_in book) (homes_in book w.message) (tested (plan_in book) (homes_from s bs book (length w.message) 0))
      tested_message =
          subst (λ (hs : List ℕ). Means (plan_in book) (homes_in book w.message) (tested (plan_in book) hs)) (sym found_homes)
          (test_means (plan_in book) (structured book good) (homes_in book w.message))

      -- the writing pass: n entries, the message's starts, its homes and its tree, and nothing beyond
      pub starts_table_lem : (table : List ℕ) → length w.message ≤ length table
          → starts_table s bs (length w.message) table ≡ map entry (starts_of s w.message) ++ drop (length w.message) table
      starts_table_lem table h =
          ap (λ (xs : List ℕ). sets table 0 (map entry xs)) (found_starts s service bs w)
          ∙ filled (map entry (starts_of s w.message)) table (length w.message) (length-map (starts_of s w.message) entry ∙ starts_long s service w.message []) h

      pub homes_table_lem : (table : List ℕ) → length w.message ≤ length table
          → homes_table s bs book (length w.message) table ≡ homes_in book w.message ++ drop (length w.message) table
      homes_table_lem table h = ap (sets table 0) found_homes ∙ filled (homes_in book w.message) table (length w.message) (length-map w.message (home_of (guide_of book))) h

      pub parents_table_lem : (t : Placed (plan_in book) (homes_in book w.message)) (table : List ℕ) → length w.message ≤ length table
          → parents_table s bs book (length w.message) table ≡ parents_of t.tree ++ drop (length w.message) table
      parents_table_lem t table h =
          let same = ap (noted_parents (plan_in book)) found_homes ∙ tree (plan_in book) (structured book good) (homes_in book w.message) t in
          ap (sets table 0) same
          ∙ filled (parents_of t.tree) table (length w.message)
          (ap length (sym (tree (plan_in book) (structured book good) (homes_in book w.message) t)) ∙ noted_long (plan_in book) 0 root_only (homes_in book w.message) ∙ length-map w.message (home_of (guide_of book))) h
