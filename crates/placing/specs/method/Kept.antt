-- What the search for a home keeps between lines and between segments. Only the contracts of src/home.rt speak of it; what a home
-- is stands in Fitting.antt.
use Rattle.std.specs.Prelude.{ℕ, suc, ◌+◌, ◌-◌, ◌<◌, ◌^◌, ◌≡◌, List, Bool, cond, eqb, ltb, length, get_or, Option, None, Some, IfSome}
use Rattle.guide.specs.meaning.Guide.{Guide}
use Rattle.guide.specs.meaning.Words.{group_kind}
use Rattle.reading.specs.method.Machine.{seek_from}
use Rattle.placing.specs.meaning.Fitting.{least}
use Rattle.placing.specs.method.Fitting.{fits_at}
use Rattle.placing.specs.declared.segment.Segment.{Segment}
use Rattle.placing.specs.declared.home.Selected.{Selected}

-- a component that has been looked up lies where it is said to lie
abbrev pub Looked : Segment → Option Selected → Type 0
Looked segment before =
    IfSome before (λ x. x.span ≡ seek_from segment.service segment.message.now (segment.at + 3) x.element x.component)

-- the component that a line's selector names; none where it has no selector
abbrev pub selected_of : Segment → Guide → ℕ → Option Selected
selected_of segment b l =
    cond (eqb (b.selector_element l) 0) None
    (Some (record {
      element = b.selector_element l;
      component = b.selector_component l;
      span = seek_from segment.service segment.message.now (segment.at + 3) (b.selector_element l) (b.selector_component l);
    }))

-- does the segment fit the line?
abbrev pub fits : Segment → Guide → ℕ → Bool
fits segment b = fits_at segment.service b segment.message.now segment.at

-- the tag of the segments that a line can be home to: a segment's tag has three bytes, and a group is home to none
abbrev pub home_tag : Guide → ℕ → ℕ
home_tag b l = cond (eqb (b.kind l) group_kind) (2 ^ 24) (b.tag l)

-- the lines before this one have their tags in a table of 257: all lines of a good book
abbrev pub tabled_end : Guide → ℕ
tabled_end b = cond (ltb b.lines 257) (suc b.lines) 257

pub record TagsOf (b : Guide) (tags : List ℕ) : Type 0 where
  pub ends : length tags ≡ tabled_end b
  pub same : (l : ℕ) → l < length tags → get_or tags l 0 ≡ home_tag b l

-- the least line that has this tag in the table; 0 if there is none
abbrev pub first_of_tag : List ℕ → ℕ → ℕ
first_of_tag tags tag = least (λ l. eqb (get_or tags l 0) tag) 1 (length tags - 1)
