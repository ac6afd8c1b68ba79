-- A segment's home as it is found in any bytes: the tag as a number, the value as it is written.
use Rattle.std.specs.Prelude.{ℕ, ◌+◌, List, Bool, not, ◌&&◌, ◌||◌, eqb}
use Rattle.guide.specs.meaning.Guide.{Guide}
use Rattle.guide.specs.method.Codes.{is_any_code}
use Rattle.guide.specs.meaning.Words.{group_kind}
use Rattle.reading.specs.method.Machine.{seek_from}
use Rattle.reading.specs.method.Tag.{tag_at}
use Rattle.reading.specs.method.Part.{bytes_in}
use Rattle.reading.specs.declared.service.Service.{Service}
use Rattle.placing.specs.meaning.Fitting.{least}

unfoldable pub is_selected_at : Service → Guide → List ℕ → ℕ → ℕ → Bool
is_selected_at s b bs at l =
    eqb (b.selector_element l) 0
    || is_any_code b (b.first_code l) (b.code_count l) (bytes_in (seek_from s bs (at + 3) (b.selector_element l) (b.selector_component l)) bs)

unfoldable pub fits_at : Service → Guide → List ℕ → ℕ → ℕ → Bool
fits_at s b bs at l = eqb (b.tag l) (tag_at bs at) && (not (eqb (b.kind l) group_kind) && is_selected_at s b bs at l)

abbrev pub home_at : Service → Guide → List ℕ → ℕ → ℕ
home_at s b bs at = least (fits_at s b bs at) 1 b.lines
