-- A segment's home. 01: "A segment's home is the segment line of its tag whose codes, if it has a selector, include the value
-- there."
use Rattle.std.specs.Prelude.{ℕ, zero, suc, List, [], ◌∷◌, map, Bool, false, cond, not, ◌&&◌, ◌||◌, eqb}
use Rattle.guide.specs.meaning.Guide.{Guide, guide_of}
use Rattle.guide.specs.meaning.View.{Line, line_of}
use Rattle.reading.specs.meaning.Message.{Component, Tag, Segment, Message}
use Rattle.reading.specs.meaning.Component.{value_at, same_component}

unfoldable pub is_among : Component → List (List ℕ) → Bool
is_among v [] = false
is_among v (code ∷ codes) = same_component v code || is_among v codes

abbrev pub has_tag : Tag → List ℕ → Bool
has_tag t tag = same_component (t.first ∷ t.second ∷ t.third ∷ []) tag

-- an absent value, being empty, is no code of a good book
abbrev pub is_selected : Line → Segment → Bool
is_selected l g = eqb l.selector_element 0 || is_among (value_at g l.selector_element l.selector_component) l.codes

unfoldable pub fits : Line → Segment → Bool
fits l g = not l.is_group && (has_tag g.tag l.tag && is_selected l g)

-- the least of so many lines from the first on that a test holds of; 0 if there is none
unfoldable pub least : (ℕ → Bool) → ℕ → ℕ → ℕ
least test line zero = 0
least test line (suc count) = cond (test line) line (least test (suc line) count)

abbrev pub home_of : Guide → Segment → ℕ
home_of b g = least (λ l. fits (line_of b l) g) 1 b.lines

-- the homes of a message in a book, segment by segment
abbrev pub homes_in : List ℕ → Message → List ℕ
homes_in book m = map (home_of (guide_of book)) m
