-- `fault::test_rest` meets its contract. The invariant: the test of the fields left is the test of all.
use mathlib.Core.Path.{◌≡◌}
use Rattle.guide.specs.meaning.Guide.{guide_of}
use Rattle.fields.specs.method.Testing.{test_rest}
use Rattle.fields.specs.method.Kept.{fields_in}
use Rattle.fields.proofs.fault.test_rest.Given as goal

abbrev pub invariant-loop-field : goal.invariant-loop-field
invariant-loop-field l =
    (goal.iterator-loop-field).can_next l.field-iterator ×
    (goal.iterator-loop-field).is_finite l.field-iterator ×
    (test_rest (guide_of l.book) (fields_in l.field-iterator) ≡ test_rest (guide_of l.book) (fields_in l.fn.left))
