-- The rows that the code finds in one pass over the homes are those of the tree; and the entries of the starts table are the starts.
use Prim.Native.Nat.{ℕ, ◌+◌, ◌≤◌, ◌<◌, ◌^◌}
use native.Mathlib.Omega.{arith}
use mathlib.Core.Path.{◌≡◌, refl, sym, ap, ap₂, ◌∙◌, subst}
use mathlib.Core.List.{List, [], ◌∷◌, ◌++◌, map, append_assoc}
use lib.ListN.{length, length-append}
use Rattle.guide.specs.meaning.Guide.{guide_of}
use Rattle.book.specs.meaning.GoodBook.{GoodBook}
use Rattle.rules.specs.method.Scanning.{scanned_row}
use Rattle.placing_laws.proofs.Structured.{structured}
use Rattle.placing_laws.proofs.Noted.{tree}
use Rattle.framing.specs.meaning.Limits.{most_bytes}
use Rattle.reading.specs.meaning.Service.{GoodService}
use Rattle.reading.specs.meaning.Message.{Message, write_segments, render}
use Rattle.reading.specs.meaning.WellFormed.{WellFormed}
use Rattle.reading.specs.declared.service.Service.{Service}
use Rattle.reading_laws.proofs.Rendering.{segments_front, segments_append}
use Rattle.guide.specs.meaning.Plan.{plan_in}
use Rattle.placing.specs.meaning.Fitting.{homes_in}
use Rattle.placing.specs.meaning.Placement.{Placed, parents_of}
use Rattle.reading.specs.meaning.Starts.{starts_in, starts_of}
use Rattle.slices.specs.method.Entries.{entry}
use Rattle.pieces_laws.proofs.Capped.{small_entry}
use Rattle.rules_laws.specs.laws.FirstFound.{first_row}
use Rattle.rules_laws.proofs.Scanned as rows

-- ---- the entries of the starts table are the starts

module _ (s : Service) (service : GoodService s) where
  front_shorter : (before rest : Message) → length (render s before) ≤ length (render s (before ++ rest))
  front_shorter before rest =
      let e : length (render s (before ++ rest)) ≡ length (render s before) + length (write_segments s rest []) =
      ap length (segments_append s before rest [] ∙ segments_front s before (write_segments s rest [])) ∙ length-append (render s before) (write_segments s rest []) in
      omega arith

  entries_in_lem : (m before : Message) → length (render s (before ++ m)) < 2 ^ 32 → map entry (starts_in s before m) ≡ starts_in s before m
  unfolding starts_in
  entries_in_lem [] before h = refl
  entries_in_lem (g ∷ gs) before h =
      ap₂ (λ (x : ℕ) (xs : List ℕ). x ∷ xs) (small_entry (length (render s before)) (let k = front_shorter before (g ∷ gs) in omega arith))
      (entries_in_lem gs (before ++ (g ∷ [])) (subst (λ (x : Message). length (render s x) < 2 ^ 32) (sym (append_assoc before (g ∷ []) gs)) h))

  pub entries_are : (bs : List ℕ) (w : WellFormed s bs) → length bs ≤ most_bytes → map entry (starts_of s w.message) ≡ starts_of s w.message
  entries_are bs w h = entries_in_lem w.message [] (let e : length bs ≡ length (render s w.message) = ap length w.same in omega arith)

-- ---- the rows that the pass finds are those of the tree

module _ (s : Service) (service : GoodService s) (bs book : List ℕ) (good : GoodBook book) (w : WellFormed s bs)
    (t : Placed (plan_in book) (homes_in book w.message)) where
  pub rows_on_tree : (p : ℕ) → p < (guide_of book).identifiers → (cs : List ℕ)
      → scanned_row (guide_of book) p cs (homes_in book w.message) ≡ first_row (guide_of book) p cs (homes_in book w.message) (parents_of t.tree)
  rows_on_tree p h cs =
      rows.scanned book good p h (homes_in book w.message) t cs
      ∙ ap (first_row (guide_of book) p cs (homes_in book w.message)) (tree (plan_in book) (structured book good) (homes_in book w.message) t)
