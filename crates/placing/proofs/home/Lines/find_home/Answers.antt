-- `Lines::find_home` meets its contract: the lines before the first of its tag do not fit, and without a selector that one does.
use mathlib.Core.Path.{sym, ◌∙◌}
use Rattle.guide.specs.meaning.Guide.{guide_of}
use Rattle.placing.proofs.OrNone.{some_number, is_some_number}
use Rattle.placing.proofs.Finding.{home_here}
use Rattle.placing.proofs.home.Lines.find_home.Goals as goal

pub returns-then-selector_element-eq0 : goal.returns-then-selector_element-eq0
returns-then-selector_element-eq0 c =
    let first = some_number _ _ (sym c.in-Some.is ∙ c.first_of_tag.ensures) in
    is_some_number _ _ first.1 (home_here (guide_of c.args.self.now.book.now) c.args.segment.now c.args.self.now.tags.items c.args.self.now.tabled c.in-Some.first first.0 first.1 _ c.selector_element.ensures.0 c.if-selector_element-eq0.true)
