use Prim.Native.Nat.{ℕ, ◌<◌}
use native.Mathlib.Omega.{arith}
use mathlib.Core.Path.{◌≡◌, ap, ◌∙◌}
use Rattle.guide.specs.meaning.Guide.{guide_of}
use Rattle.book.proofs.Digits.{number_of, none, one_more, five, small, identifier_bytes}
use Rattle.book.proofs.identifiers.number_of.Goals as goal

pub loop-place-init : goal.loop-place-init
loop-place-init c = none _

pub overflow_mul-number : goal.overflow_mul-number
overflow_mul-number c =
    let below = small _ (identifier_bytes c.args.book.now (λ k. omega (arith, c.type_inv.book k)) c.args.identifier) c.loop-place.place (omega (arith, c.loop-place-test.true)) in
    omega (arith, below, c.loop-place.invariant)

pub overflow_add-number : goal.overflow_add-number
overflow_add-number c =
    let below = small _ (identifier_bytes c.args.book.now (λ k. omega (arith, c.type_inv.book k)) c.args.identifier) c.loop-place.place (omega (arith, c.loop-place-test.true)) in
    omega (arith, below, c.loop-place.invariant, c.identifier_byte.ensures.1)

pub loop-place-preserved : goal.loop-place-preserved
loop-place-preserved c =
    let more = one_more ((guide_of c.args.book.now).identifier_byte c.args.identifier) c.loop-place.place in
    omega (arith, more, c.loop-place.invariant, c.identifier_byte.ensures.0)

pub returns-clause-value : goal.returns-clause-value
returns-clause-value c =
    let byte = (guide_of c.args.book.now).identifier_byte c.args.identifier in
    let all : c.loop-place.place ≡ 5 = omega (arith, c.loop-place-test.false, c.loop-place.auto.place-end) in
    c.loop-place.invariant ∙ ap (number_of byte) all ∙ five byte

pub returns-clause-small : goal.returns-clause-small
returns-clause-small c =
    let byte = (guide_of c.args.book.now).identifier_byte c.args.identifier in
    let all : c.loop-place.place ≡ 5 = omega (arith, c.loop-place-test.false, c.loop-place.auto.place-end) in
    let bytes : (n : ℕ) → byte n < 256 = identifier_bytes c.args.book.now (λ k. omega (arith, c.type_inv.book k)) c.args.identifier in
    let value = c.loop-place.invariant ∙ ap (number_of byte) all ∙ five byte in
    omega (arith, value, bytes 0, bytes 1, bytes 2, bytes 3, bytes 4)
