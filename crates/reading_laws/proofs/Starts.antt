-- Law starts: a cursor that goes through a well-formed message finds where each of its segments starts.
use Prim.Native.Nat.{ℕ, suc, ◌+◌}
use mathlib.Core.Path.{◌≡◌, refl, sym, ap, ap₂, ◌∙◌}
use mathlib.Core.List.{List, [], ◌∷◌, ◌++◌, append_assoc}
use lib.ListN.{length, length-append}
use Rattle.std.specs.Prelude.{Option}
use Rattle.reading.specs.meaning.Service.{All, GoodService}
use Rattle.reading.specs.meaning.Message.{Message, Segment, ValidSegment, write_segments, render}
use Rattle.reading.specs.meaning.WellFormed.{WellFormed, end_of}
use Rattle.reading_laws.specs.laws.Outcome.{start_after}
use Rattle.reading.specs.meaning.Starts.{starts_in, starts_of}
use Rattle.reading.specs.declared.span.Span.{Span}
use Rattle.reading.specs.declared.cursor.Cursor.{Cursor}
use Rattle.reading.specs.method.Starts.{starts_then, starts_from}
use Rattle.reading.specs.declared.service.Service.{Service}
use Rattle.reading_laws.proofs.Cursors.{cursor, written_at, next_start, start_is}

module _ (s : Service) (service : GoodService s) where
  next_at : (before : Message) (g : Segment) (after : Message) → end_of s (length (render s before)) g + 1 ≡ length (render s (before ++ (g ∷ [])))
  next_at before g after =
      let long : length (before ++ (g ∷ [])) ≡ length before + 1 = length-append before (g ∷ []) in
      next_start s service before g after
      ∙ ap₂ (start_after s) (sym (append_assoc before (g ∷ []) after)) (sym long)
      ∙ start_is s service (before ++ (g ∷ [])) after

  pub starts_long : (m before : Message) → length (starts_in s before m) ≡ length m
  unfolding starts_in
  starts_long [] before = refl
  starts_long (g ∷ gs) before = ap suc (starts_long gs (before ++ (g ∷ [])))

  -- the starts that are found
  starts_found : (m before : Message) → All ValidSegment m → starts_from s (render s (before ++ m)) (length m) (length (render s before)) ≡ starts_in s before m
  unfolding starts_from starts_in
  starts_found [] before v = refl
  starts_found (g ∷ gs) before v =
      ap (λ (f : Option (Span × Cursor)). starts_then f (starts_from s (render s (before ++ (g ∷ gs))) (length gs)) (length (render s before)))
      (cursor s service (render s (before ++ (g ∷ gs))) (length (render s before)) g (written_at s service before g gs v.0))
      ∙ ap (λ (xs : List ℕ). length (render s before) ∷ xs)
      (ap (starts_from s (render s (before ++ (g ∷ gs))) (length gs)) (next_at before g gs)
      ∙ ap (λ (x : Message). starts_from s (render s x) (length gs) (length (render s (before ++ (g ∷ []))))) (sym (append_assoc before (g ∷ []) gs))
      ∙ starts_found gs (before ++ (g ∷ [])) v.1)

  module _ (bs : List ℕ) (w : WellFormed s bs) where
    -- law starts: the passes find each segment's start
    pub found_starts : starts_from s bs (length w.message) 0 ≡ starts_of s w.message
    unfolding write_segments
    found_starts = ap (λ (x : List ℕ). starts_from s x (length w.message) 0) w.same ∙ starts_found w.message [] w.valid.segments
