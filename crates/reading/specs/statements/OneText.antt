-- One reading, one text. 02, T-11: "For our auditors, show that two messages which are well-formed under the same service characters and
-- have the same tags and the same component values at all places are the same bytes."
use Rattle.std.specs.Prelude.{ℕ, zero, suc, ◌≡◌, List, [], ◌∷◌}
use Rattle.reading.specs.meaning.Service.{GoodService}
use Rattle.reading.specs.meaning.Message.{Component, Tag, Message}
use Rattle.reading.specs.meaning.WellFormed.{WellFormed}
use Rattle.reading.specs.meaning.Component.{value_at}
use Rattle.reading.specs.declared.service.Service.{Service}

-- ---- what is compared. A component of a `Message` is its value; that this is 01's value of the component's bytes is law value_written.

abbrev pub tags_of : Message → List Tag
tags_of [] = []
tags_of (g ∷ gs) = g.tag ∷ tags_of gs

-- element e, component c of the segment with k others before it; the empty value where there is none
abbrev pub value_in_segments : ℕ → ℕ → ℕ → Message → Component
value_in_segments k e c [] = []
value_in_segments zero e c (g ∷ gs) = value_at g e c
value_in_segments (suc k) e c (g ∷ gs) = value_in_segments k e c gs

-- 01: "segments count from 1", as elements and components do; number 0 is no segment's. "An absent component has the empty value."
abbrev pub value_in : Message → ℕ → ℕ → ℕ → Component
value_in m zero e c = []
value_in m (suc k) e c = value_in_segments k e c m

pub record Alike (m n : Message) : Type 0 where
  -- one by one, so there are as many segments
  pub same_tags : tags_of m ≡ tags_of n
  pub same_values : (segment element component : ℕ) → value_in m segment element component ≡ value_in n segment element component

-- ---- the statement. 02's messages are texts here, and a `Message` is what is read of one.

pub record OneReadingOneText (s : Service) : Type 0 where
  -- one reading: a text is the writing of one message at most, so that its tags and its values do not depend on how it is read
  pub one_reading : (text : List ℕ) (x y : WellFormed s text) → x.message ≡ y.message
  -- one text: 02's sentence
  pub one_text : (text other : List ℕ) (x : WellFormed s text) (y : WellFormed s other) → Alike x.message y.message → text ≡ other

-- "under the same service characters": any good set of them
abbrev pub OneReadingOneTextForGoodSets : Type 0
OneReadingOneTextForGoodSets = (s : Service) → GoodService s → OneReadingOneText s
