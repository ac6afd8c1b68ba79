-- T-11's sentence as it would be with other clauses in the place of T-05's two. All else is as in reading/specs/meaning: validity and
-- well-formedness clause by clause, and the sentence word for word.
use Rattle.std.specs.Prelude.{ℕ, ◌<◌, ◌≡◌, List, length}
use Rattle.reading.specs.meaning.Service.{All}
use Rattle.reading.specs.meaning.Message.{Component, Element, Segment, Message, ValidComponent, ValidTag, render}
use Rattle.reading.specs.statements.OneText.{Alike}
use Rattle.reading.specs.declared.service.Service.{Service}

-- More: what is asked of the components behind an element's first
pub record ElementBy (More : List Component → Type 0) (e : Element) : Type 0 where
  pub first : ValidComponent e.first
  pub more : All ValidComponent e.more
  pub ended : More e.more

-- Elements: what is asked of a segment's elements
module _ (More : List Component → Type 0) (Elements : List Element → Type 0) where
  pub record SegmentBy (g : Segment) : Type 0 where
    pub tag : ValidTag g.tag
    pub elements : All (ElementBy More) g.elements
    pub ended : Elements g.elements

  pub record WellFormedBy (s : Service) (text : List ℕ) : Type 0 where
    pub message : Message
    pub segments : All SegmentBy message
    pub non_empty : 0 < length message
    pub same : text ≡ render s message

  abbrev pub OneTextBy : Service → Type 0
  OneTextBy s = (text other : List ℕ) (x : WellFormedBy s text) (y : WellFormedBy s other) → Alike x.message y.message → text ≡ other
