-- `numbers::put_progress` meets its contract: a copy into the front of a table is as many numbers as fit.
use mir.Val.{bool_byte}
use mathlib.Core.Bool.{Bool, true, false}
use mathlib.Core.Path.{◌≡◌, refl, ◌∙◌}
use Rattle.slices.proofs.Fitting.{front_fits}
use Rattle.pieces.specs.method.Numbers.{flag, numbers_of}
use Rattle.pieces.proofs.numbers.put_progress.Goals as goal

-- as `usize::from` says it
a_flag : (b : Bool) → bool_byte b ≡ flag b
a_flag true = refl
a_flag false = refl

pub returns : goal.returns
returns c =
    let told = c.args.progress in
    rw (c.copy_from_slice.ensures.after, c.from.ensures ∙ a_flag told.ended, c.state_number.ensures, c.from-2.ensures ∙ a_flag told.lacking)
    (front_fits (numbers_of told) c.args.numbers.now c.min-fitting.result c.min-fitting.ensures)
