-- The tag of a segment as a number: that of the bytes at its start, and no other tag has it.
use Prim.Native.Nat.{ℕ, ◌+◌, ◌*◌, ◌<◌}
use native.Mathlib.Omega.{arith}
use mathlib.Core.Path.{◌≡◌, refl, sym, ap, ◌∙◌}
use mathlib.Core.List.{List}
use mathlib.Core.Bool.{Bool, true, false, ◌&&◌, ◌||◌}
use lib.Dec.{leb}
use lib.ListN.{get_or}
use lib.Seq.{get_or-drop}
use borrow.Author.Tests.{leb-true}
use Rattle.reading.specs.meaning.Service.{is_tag_byte}
use Rattle.reading.specs.meaning.WellFormed.{SegmentAt}
use Rattle.reading.specs.meaning.Message.{Tag, Segment, ValidTag, write_segment}
use Rattle.reading.specs.meaning.Tag.{tag_number, UNH, UNT}
use Rattle.reading.specs.method.Tag.{tag_at}
use Rattle.reading.specs.declared.service.Service.{Service}
use Rattle.reading.proofs.Booleans.{right}

pub tag_of_segment : (s : Service) (bs : List ℕ) (at : ℕ) (g : Segment) → SegmentAt s bs at g → tag_at bs at ≡ tag_number g.tag
tag_of_segment s bs at g i =
    let here : get_or bs at 0 ≡ get_or bs (at + 0) 0 = ap (λ (n : ℕ). get_or bs n 0) (omega arith) in
    omega (arith, here, byte 0, byte 1, byte 2)
  where
    byte : (k : ℕ) → get_or bs (at + k) 0 ≡ get_or (write_segment s g i.rest) k 0
    byte k = sym (get_or-drop at bs k 0) ∙ ap (λ (xs : List ℕ). get_or xs k 0) i.same

pub tag_small : (x : ℕ) → is_tag_byte x ≡ true → x < 256
unfolding is_tag_byte
tag_small x h = go (leb 0x30 x && leb x 0x39) refl h
  where
    go : (v : Bool) → (leb 0x30 x && leb x 0x39) ≡ v → (v || (leb 0x41 x && leb x 0x5a)) ≡ true → x < 256
    go true e k = let r = leb-true x 0x39 (right (leb 0x30 x) (leb x 0x39) e) in omega arith
    go false e k = let r = leb-true x 0x5a (right (leb 0x41 x) (leb x 0x5a) k) in omega arith

-- a number has one way to be written as three bytes
pub three_bytes : (a b c x y z : ℕ) → (a < 256) × (b < 256) × (c < 256) → (x < 256) × (y < 256) × (z < 256)
    → a + 256 * b + 65536 * c ≡ x + 256 * y + 65536 * z → (a ≡ x) × (b ≡ y) × (c ≡ z)
three_bytes a b c x y z p q e = (omega (arith, p.0, p.1, p.2, q.0, q.1, q.2), omega (arith, p.0, p.1, p.2, q.0, q.1, q.2), omega (arith, p.0, p.1, p.2, q.0, q.1, q.2))

-- a tag's bytes are small, so its number tells them
pub one_tag : (t u : Tag) → ValidTag t → ValidTag u → tag_number t ≡ tag_number u → t ≡ u
one_tag t u v w e =
    let d = three_bytes t.first t.second t.third u.first u.second u.third (small t v) (small u w) e in
    λ i. record { first = d.0 i; second = d.1 i; third = d.2 i }
  where
    small : (x : Tag) → ValidTag x → (x.first < 256) × (x.second < 256) × (x.third < 256)
    small x y = (tag_small x.first y.first, tag_small x.second y.second, tag_small x.third y.third)

pub valid_unh : ValidTag UNH
unfolding is_tag_byte
valid_unh = record { first = refl; second = refl; third = refl }

pub valid_unt : ValidTag UNT
unfolding is_tag_byte
valid_unt = record { first = refl; second = refl; third = refl }
