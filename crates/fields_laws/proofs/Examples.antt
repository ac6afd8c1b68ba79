-- Examples by computation: 01's bench fields of book K, and those of the second book, with presence 3 and codes. And the law of the
-- least fault at one of them, so that its premises hold of something.
use Prim.Native.Nat.{ℕ, zero, suc}
use native.Mathlib.Omega.{arith}
use mathlib.Core.Path.{◌≡◌, refl}
use mathlib.Core.List.{List, [], ◌∷◌}
use lib.ListN.{take}
use Rattle.guide.specs.meaning.Edition.{edition_numbered}
use Rattle.guide.specs.meaning.Guide.{guide_of}
use Rattle.guide.specs.meaning.View.{line_of}
use Rattle.book_laws.proofs.Bytes.{k, second}
use Rattle.book_laws.proofs.Inhabited.{k_is_good}
use Rattle.guide.specs.method.Codes.{spells, is_code, is_any_code}
use Rattle.reading.specs.meaning.Service.{standard, is_data, is_tag_byte, must_release}
use Rattle.reading.specs.meaning.Message.{Segment, write_component, write_more, write_elements}
use Rattle.reading.specs.meaning.WellFormed.{SegmentAt}
use Rattle.reading.specs.meaning.Component.{value_from, value_at}
use Rattle.reading.specs.method.Machine.{kind_of}
use Rattle.reading_laws.proofs.Services.{good_standard}
use Rattle.reading.specs.meaning.Digit.{is_digit}
use Rattle.fields.specs.meaning.Number.{figures}
use Rattle.fields.specs.method.Number.{starts_digit, after_digits, is_none, are_digits, ends_number, without_sign, is_number}
use Rattle.fields.specs.meaning.Fields.{LeastFault, at_fault}
use Rattle.fields.specs.method.Parts.{cut, has_bytes, any_bytes}
use Rattle.fields.specs.method.Testing.{has_code, fits_text, fits_number, fits, is_missing, is_broken, test_component, test_absent, test_components, test_rest, test_elements, fault_at, first_at, first_fault}
use Rattle.std.specs.Prelude.{Result, Ok}
use Rattle.fields.specs.declared.fault.Fault.{Fault}
use Rattle.fields.specs.declared.passes.FirstFault.{FirstFault}
use Rattle.fields_laws.proofs.Numbers.{good_mark_standard}
use Rattle.fields_laws.proofs.FieldFault.{field_fault}

abbrev of : List ℕ → List ℕ → ℕ → Result (Unit {0}) Fault
of book segment line = fault_at standard (guide_of book) segment 0 line

abbrev marks : ℕ → List ℕ → List ℕ
marks zero rest = rest
marks (suc n) rest = 58 ∷ marks n rest

-- 01's head of the bench messages, then `LIN+1'LIN+1,5'UNT+5++1'`
abbrev message : List ℕ
message = 85 ∷ 78 ∷ 72 ∷ 43 ∷ 49 ∷ 39 ∷ 66 ∷ 71 ∷ 77 ∷ 43 ∷ 55 ∷ 39 ∷ 82 ∷ 70 ∷ 70 ∷ 43 ∷ 90 ∷ 49 ∷ 51 ∷ 58 ∷ 49 ∷ 48 ∷ 48 ∷ 48 ∷ 49 ∷ 39 ∷ 76 ∷ 73 ∷ 78 ∷ 43 ∷ 49 ∷ 39 ∷ 76 ∷ 73 ∷ 78 ∷ 43 ∷ 49 ∷ 44 ∷ 53 ∷ 39 ∷ 85 ∷ 78 ∷ 84 ∷ 43 ∷ 53 ∷ 43 ∷ 43 ∷ 49 ∷ 39 ∷ []

abbrev starts : List ℕ
starts = 0 ∷ 6 ∷ 12 ∷ 26 ∷ 32 ∷ 40 ∷ []

-- of so many of its segments, with the lines that placing gives them
abbrev first_of : ℕ → Result (Unit {0}) FirstFault
first_of n = first_fault standard (guide_of k) message 0 (take n starts) (take n (1 ∷ 2 ∷ 3 ∷ 5 ∷ 5 ∷ 7 ∷ []))

pub record Table : Type 0 where
  -- `LIN+1'`
  lin : of k (76 ∷ 73 ∷ 78 ∷ 43 ∷ 49 ∷ 39 ∷ []) 5 ≡ Ok tt
  -- `LIN+1,5'`
  lin_comma : of k (76 ∷ 73 ∷ 78 ∷ 43 ∷ 49 ∷ 44 ∷ 53 ∷ 39 ∷ []) 5 ≡ at_fault 1 1
  -- `LIN'`
  lin_missing : of k (76 ∷ 73 ∷ 78 ∷ 39 ∷ []) 5 ≡ at_fault 1 1
  -- `LIN++1'`
  lin_empty : of k (76 ∷ 73 ∷ 78 ∷ 43 ∷ 43 ∷ 49 ∷ 39 ∷ []) 5 ≡ at_fault 1 1
  -- `LIN+-12345.6'`
  lin_six : of k (76 ∷ 73 ∷ 78 ∷ 43 ∷ 45 ∷ 49 ∷ 50 ∷ 51 ∷ 52 ∷ 53 ∷ 46 ∷ 54 ∷ 39 ∷ []) 5 ≡ Ok tt
  -- `LIN+-12345.67'`
  lin_seven : of k (76 ∷ 73 ∷ 78 ∷ 43 ∷ 45 ∷ 49 ∷ 50 ∷ 51 ∷ 52 ∷ 53 ∷ 46 ∷ 54 ∷ 55 ∷ 39 ∷ []) 5 ≡ at_fault 1 1
  -- `LIN+-'`
  lin_sign_alone : of k (76 ∷ 73 ∷ 78 ∷ 43 ∷ 45 ∷ 39 ∷ []) 5 ≡ at_fault 1 1
  -- `LIN+.5'`
  lin_mark_first : of k (76 ∷ 73 ∷ 78 ∷ 43 ∷ 46 ∷ 53 ∷ 39 ∷ []) 5 ≡ at_fault 1 1
  -- `LIN+5.'`
  lin_mark_last : of k (76 ∷ 73 ∷ 78 ∷ 43 ∷ 53 ∷ 46 ∷ 39 ∷ []) 5 ≡ at_fault 1 1
  -- `BGM'`
  bgm_absent : of k (66 ∷ 71 ∷ 77 ∷ 39 ∷ []) 2 ≡ Ok tt
  -- `BGM+?+?:??'`
  bgm_released : of k (66 ∷ 71 ∷ 77 ∷ 43 ∷ 63 ∷ 43 ∷ 63 ∷ 58 ∷ 63 ∷ 63 ∷ 39 ∷ []) 2 ≡ Ok tt
  -- `BGM+?+?:??A'`
  bgm_four : of k (66 ∷ 71 ∷ 77 ∷ 43 ∷ 63 ∷ 43 ∷ 63 ∷ 58 ∷ 63 ∷ 63 ∷ 65 ∷ 39 ∷ []) 2 ≡ at_fault 1 1
  -- `RFF+Z13:10001'`
  rff : of k (82 ∷ 70 ∷ 70 ∷ 43 ∷ 90 ∷ 49 ∷ 51 ∷ 58 ∷ 49 ∷ 48 ∷ 48 ∷ 48 ∷ 49 ∷ 39 ∷ []) 3 ≡ Ok tt
  -- `RFF+Z13'`
  rff_absent : of k (82 ∷ 70 ∷ 70 ∷ 43 ∷ 90 ∷ 49 ∷ 51 ∷ 39 ∷ []) 3 ≡ at_fault 1 2
  -- `RFF+Z13::1'`
  rff_empty : of k (82 ∷ 70 ∷ 70 ∷ 43 ∷ 90 ∷ 49 ∷ 51 ∷ 58 ∷ 58 ∷ 49 ∷ 39 ∷ []) 3 ≡ at_fault 1 2
  -- `RFF+Z13:10001:1'`
  rff_unnamed : of k (82 ∷ 70 ∷ 70 ∷ 43 ∷ 90 ∷ 49 ∷ 51 ∷ 58 ∷ 49 ∷ 48 ∷ 48 ∷ 48 ∷ 49 ∷ 58 ∷ 49 ∷ 39 ∷ []) 3 ≡ at_fault 1 3
  -- `RFF+:10001'`
  rff_may_be_empty : of k (82 ∷ 70 ∷ 70 ∷ 43 ∷ 58 ∷ 49 ∷ 48 ∷ 48 ∷ 48 ∷ 49 ∷ 39 ∷ []) 3 ≡ Ok tt
  -- `RFF+Z13:10001::1'`
  rff_behind_empty_component : of k (82 ∷ 70 ∷ 70 ∷ 43 ∷ 90 ∷ 49 ∷ 51 ∷ 58 ∷ 49 ∷ 48 ∷ 48 ∷ 48 ∷ 49 ∷ 58 ∷ 58 ∷ 49 ∷ 39 ∷ []) 3 ≡ at_fault 1 4
  -- `RFF+Z13:10001++:1'`
  rff_behind_empty_elements : of k (82 ∷ 70 ∷ 70 ∷ 43 ∷ 90 ∷ 49 ∷ 51 ∷ 58 ∷ 49 ∷ 48 ∷ 48 ∷ 48 ∷ 49 ∷ 43 ∷ 43 ∷ 58 ∷ 49 ∷ 39 ∷ []) 3 ≡ at_fault 3 2
  -- `QTY+145:5'`
  qty : of k (81 ∷ 84 ∷ 89 ∷ 43 ∷ 49 ∷ 52 ∷ 53 ∷ 58 ∷ 53 ∷ 39 ∷ []) 6 ≡ Ok tt
  -- `QTY+145:x'`
  qty_text : of k (81 ∷ 84 ∷ 89 ∷ 43 ∷ 49 ∷ 52 ∷ 53 ∷ 58 ∷ 120 ∷ 39 ∷ []) 6 ≡ at_fault 1 2
  -- `UNT+4'`
  unt_absent : of k (85 ∷ 78 ∷ 84 ∷ 43 ∷ 52 ∷ 39 ∷ []) 7 ≡ at_fault 2 1
  -- `UNT+4+1+++2'`
  unt_unnamed : of k (85 ∷ 78 ∷ 84 ∷ 43 ∷ 52 ∷ 43 ∷ 49 ∷ 43 ∷ 43 ∷ 43 ∷ 50 ∷ 39 ∷ []) 7 ≡ at_fault 5 1
  -- `NAD+DP'`
  nad_absent : of second (78 ∷ 65 ∷ 68 ∷ 43 ∷ 68 ∷ 80 ∷ 39 ∷ []) 8 ≡ Ok tt
  -- `NAD+DP+X::293'`
  nad_full : of second (78 ∷ 65 ∷ 68 ∷ 43 ∷ 68 ∷ 80 ∷ 43 ∷ 88 ∷ 58 ∷ 58 ∷ 50 ∷ 57 ∷ 51 ∷ 39 ∷ []) 8 ≡ Ok tt
  -- `NAD+DP+::293'`
  nad_must_with : of second (78 ∷ 65 ∷ 68 ∷ 43 ∷ 68 ∷ 80 ∷ 43 ∷ 58 ∷ 58 ∷ 50 ∷ 57 ∷ 51 ∷ 39 ∷ []) 8 ≡ at_fault 2 1
  -- `NAD+DP+X'`
  nad_with_last : of second (78 ∷ 65 ∷ 68 ∷ 43 ∷ 68 ∷ 80 ∷ 43 ∷ 88 ∷ 39 ∷ []) 8 ≡ at_fault 2 3
  -- `NAD+DP+::::X'`
  nad_only_unnamed : of second (78 ∷ 65 ∷ 68 ∷ 43 ∷ 68 ∷ 80 ∷ 43 ∷ 58 ∷ 58 ∷ 58 ∷ 58 ∷ 88 ∷ 39 ∷ []) 8 ≡ at_fault 2 1
  -- `NAD+DP+X:Y:293'`
  nad_must_not : of second (78 ∷ 65 ∷ 68 ∷ 43 ∷ 68 ∷ 80 ∷ 43 ∷ 88 ∷ 58 ∷ 89 ∷ 58 ∷ 50 ∷ 57 ∷ 51 ∷ 39 ∷ []) 8 ≡ at_fault 2 2
  -- `NAD+DP+X::9'`
  nad_other_code : of second (78 ∷ 65 ∷ 68 ∷ 43 ∷ 68 ∷ 80 ∷ 43 ∷ 88 ∷ 58 ∷ 58 ∷ 57 ∷ 39 ∷ []) 8 ≡ at_fault 2 3
  -- `NAD+MS'`
  nad_no_code : of second (78 ∷ 65 ∷ 68 ∷ 43 ∷ 77 ∷ 83 ∷ 39 ∷ []) 8 ≡ at_fault 1 1
  -- `CCI+++Z15::9'`
  cci_empty_unnamed : of second (67 ∷ 67 ∷ 73 ∷ 43 ∷ 43 ∷ 43 ∷ 90 ∷ 49 ∷ 53 ∷ 58 ∷ 58 ∷ 57 ∷ 39 ∷ []) 18 ≡ Ok tt
  -- `STS+Z:::X'`
  sts_far : of second (83 ∷ 84 ∷ 83 ∷ 43 ∷ 90 ∷ 58 ∷ 58 ∷ 58 ∷ 88 ∷ 39 ∷ []) 21 ≡ at_fault 1 4
  -- `STS+Z` with 299 component marks and `X`: the component 300
  sts_three_hundred : of second (83 ∷ 84 ∷ 83 ∷ 43 ∷ 90 ∷ marks 299 (88 ∷ 39 ∷ [])) 21 ≡ at_fault 1 300
  -- the first place at fault, counted from 1, with its line; as far as the tables reach
  fifth : first_of 6 ≡ first_at 5 5 1 1
  not_reached : first_of 4 ≡ Ok tt
  last_at_fault : first_fault standard (guide_of k) message 5 (40 ∷ []) (7 ∷ []) ≡ first_at 6 7 2 1

pub bench : Table
unfolding k second edition_numbered guide_of fault_at first_fault test_elements test_rest test_components test_component test_absent is_broken is_missing fits fits_text fits_number has_code is_number starts_digit after_digits is_none are_digits ends_number without_sign is_digit figures has_bytes any_bytes cut kind_of is_data value_from is_any_code is_code spells
bench =
    record {
      lin = refl;
      lin_comma = refl;
      lin_missing = refl;
      lin_empty = refl;
      lin_six = refl;
      lin_seven = refl;
      lin_sign_alone = refl;
      lin_mark_first = refl;
      lin_mark_last = refl;
      bgm_absent = refl;
      bgm_released = refl;
      bgm_four = refl;
      rff = refl;
      rff_absent = refl;
      rff_empty = refl;
      rff_unnamed = refl;
      rff_may_be_empty = refl;
      rff_behind_empty_component = refl;
      rff_behind_empty_elements = refl;
      qty = refl;
      qty_text = refl;
      unt_absent = refl;
      unt_unnamed = refl;
      nad_absent = refl;
      nad_full = refl;
      nad_must_with = refl;
      nad_with_last = refl;
      nad_only_unnamed = refl;
      nad_must_not = refl;
      nad_other_code = refl;
      nad_no_code = refl;
      cci_empty_unnamed = refl;
      sts_far = refl;
      sts_three_hundred = refl;
      fifth = refl;
      not_reached = refl;
      last_at_fault = refl;
    }

-- `LIN+1,5'` as a segment
abbrev comma : Segment
comma = record { tag = record { first = 76; second = 73; third = 78 }; elements = record { first = 49 ∷ 44 ∷ 53 ∷ []; more = [] } ∷ [] }

comma_there : SegmentAt standard (76 ∷ 73 ∷ 78 ∷ 43 ∷ 49 ∷ 44 ∷ 53 ∷ 39 ∷ []) 0 comma
unfolding is_tag_byte is_data must_release write_component write_more write_elements
comma_there =
    record {
      valid =
          record {
            tag = record { first = refl; second = refl; third = refl };
            elements = (record { first = (refl, (refl, (refl, tt))); more = tt; ended = tt }, tt);
            ended = tt;
          };
      rest = [];
      same = refl;
    }

-- by the law, 1.1 is its least fault
pub comma_fault : LeastFault standard (line_of (guide_of k) 5).fields (value_at comma) (at_fault 1 1)
unfolding k edition_numbered guide_of fault_at first_fault test_elements test_rest test_components test_component test_absent is_broken is_missing fits fits_text fits_number has_code is_number starts_digit after_digits is_none are_digits ends_number without_sign is_digit figures has_bytes any_bytes cut kind_of is_data value_from is_any_code is_code spells
comma_fault = field_fault standard good_standard good_mark_standard k k_is_good 5 (omega arith) (omega arith) (76 ∷ 73 ∷ 78 ∷ 43 ∷ 49 ∷ 44 ∷ 53 ∷ 39 ∷ []) 0 comma comma_there
