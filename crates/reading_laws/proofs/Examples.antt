-- Worked examples, computed from the definitions: 01's starred messages of the reading, its faults with `?`, T-05's needless separators,
-- a lookup, and a message's values by their numbers.
use Prim.Native.Nat.{ℕ}
use mathlib.Core.Path.{◌≡◌, refl}
use mathlib.Core.List.{List, [], ◌∷◌}
use Rattle.reading.specs.meaning.Service.{standard, is_data, is_tag_byte, must_release}
use Rattle.reading.specs.meaning.Message.{Component, Message, render, write_component, write_more, write_elements, write_segments}
use Rattle.reading.specs.meaning.Component.{span}
use Rattle.reading.specs.statements.OneText.{value_in}
use Rattle.reading.specs.method.Machine.{kind_of, scan_on, scanned, end_on, is_here, seek_on, component_span}
use Rattle.reading.specs.declared.span.Span.{Span}
use Rattle.reading.specs.method.Outcome.{Outcome, Segments, BadAt}

-- a message and what a scan of it answers
messages : List (List ℕ × Outcome)
messages =
    -- the empty message
    ([], BadAt 0)
    -- UNH+1
    ∷ (85 ∷ 78 ∷ 72 ∷ 43 ∷ 49 ∷ [], BadAt 5)
    -- UNH+1?A'
    ∷ (85 ∷ 78 ∷ 72 ∷ 43 ∷ 49 ∷ 63 ∷ 65 ∷ 39 ∷ [], BadAt 6)
    -- UNH+1?' : a released ' ends nothing
    ∷ (85 ∷ 78 ∷ 72 ∷ 43 ∷ 49 ∷ 63 ∷ 39 ∷ [], BadAt 7)
    -- UNH+1??' : behind a released ? it does
    ∷ (85 ∷ 78 ∷ 72 ∷ 43 ∷ 49 ∷ 63 ∷ 63 ∷ 39 ∷ [], Segments 1)
    -- UNH+1'UNS' : a segment without elements
    ∷ (85 ∷ 78 ∷ 72 ∷ 43 ∷ 49 ∷ 39 ∷ 85 ∷ 78 ∷ 83 ∷ 39 ∷ [], Segments 2)
    -- UNH+1', and CR between segments
    ∷ (85 ∷ 78 ∷ 72 ∷ 43 ∷ 49 ∷ 39 ∷ 13 ∷ 85 ∷ 78 ∷ 83 ∷ 39 ∷ [], BadAt 6)
    -- UNS+' : nothing behind the element's mark
    ∷ (85 ∷ 78 ∷ 83 ∷ 43 ∷ 39 ∷ [], BadAt 4)
    -- UNH+1:' : nothing behind the component's mark
    ∷ (85 ∷ 78 ∷ 72 ∷ 43 ∷ 49 ∷ 58 ∷ 39 ∷ [], BadAt 6)
    -- UNH+1:+2' : nor behind this one
    ∷ (85 ∷ 78 ∷ 72 ∷ 43 ∷ 49 ∷ 58 ∷ 43 ∷ 50 ∷ 39 ∷ [], BadAt 6)
    -- UNH+1:?:+2' : the last component is the released :
    ∷ (85 ∷ 78 ∷ 72 ∷ 43 ∷ 49 ∷ 58 ∷ 63 ∷ 58 ∷ 43 ∷ 50 ∷ 39 ∷ [], Segments 1)
    -- UNH++1+:2::3' : empty elements and components before data
    ∷ (85 ∷ 78 ∷ 72 ∷ 43 ∷ 43 ∷ 49 ∷ 43 ∷ 58 ∷ 50 ∷ 58 ∷ 58 ∷ 51 ∷ 39 ∷ [], Segments 1)
    ∷ []

-- AAA+B:?'C++D', the header's example: element, component, and where it lies
text : List ℕ
text = 65 ∷ 65 ∷ 65 ∷ 43 ∷ 66 ∷ 58 ∷ 63 ∷ 39 ∷ 67 ∷ 43 ∷ 43 ∷ 68 ∷ 39 ∷ []

lookups : List (ℕ × ℕ × Span)
lookups = (1, 2, span 6 9) ∷ (2, 1, span 10 10) ∷ (3, 1, span 11 12) ∷ (3, 2, span 12 12) ∷ (0, 1, span 13 13) ∷ []

-- the message that is written as this text, and its values: segment, element, component
message : Message
message =
    record {
      tag = record { first = 65; second = 65; third = 65 };
      elements =
          record { first = 66 ∷ []; more = (39 ∷ 67 ∷ []) ∷ [] } ∷ record { first = []; more = [] } ∷ record { first = 68 ∷ []; more = [] } ∷ [];
    }
    ∷ []

values : List (ℕ × ℕ × ℕ × Component)
values =
    (1, 1, 1, 66 ∷ []) ∷ (1, 1, 2, 39 ∷ 67 ∷ []) ∷ (1, 2, 1, []) ∷ (1, 3, 1, 68 ∷ []) ∷ (1, 3, 2, []) ∷ (1, 4, 1, []) ∷ (1, 0, 1, []) ∷ (1, 1, 0, []) ∷ (0, 1, 1, [])
    ∷ (2, 1, 1, []) ∷ []

abbrev AllScanned : List (List ℕ × Outcome) → Type 0
AllScanned [] = Unit {0}
AllScanned (x ∷ xs) = (scanned standard x.0 ≡ x.1) × AllScanned xs

abbrev AllFound : List (ℕ × ℕ × Span) → Type 0
AllFound [] = Unit {0}
AllFound (x ∷ xs) = (component_span standard text 0 x.0 x.1 ≡ x.2) × AllFound xs

abbrev AllValued : List (ℕ × ℕ × ℕ × Component) → Type 0
AllValued [] = Unit {0}
AllValued (x ∷ xs) = (value_in message x.0 x.1 x.2 ≡ x.3) × AllValued xs

messages_scanned : AllScanned messages
unfolding messages scan_on kind_of is_tag_byte is_data
messages_scanned = (refl, (refl, (refl, (refl, (refl, (refl, (refl, (refl, (refl, (refl, (refl, (refl, tt))))))))))))

components_found : AllFound lookups
unfolding lookups text end_on seek_on is_here kind_of is_tag_byte is_data
components_found = (refl, (refl, (refl, (refl, (refl, tt)))))

message_written : render standard message ≡ text
unfolding message text write_component write_more write_elements write_segments must_release
message_written = refl

values_told : AllValued values
unfolding message values
values_told = (refl, (refl, (refl, (refl, (refl, (refl, (refl, (refl, (refl, (refl, tt))))))))))
