-- `find_identifier` meets its contract: the chain tries each number.
use Rattle.std.proofs.Common.{rules, tests, sym, ◌∙◌, arith}
use Rattle.std.proofs.lemmas.Iterator.{YieldsList-from_range}
use Rattle.std.proofs.lemmas.Iterator.Adapters.{option_map_id}
use Rattle.std.proofs.lemmas.Iterator.Search.{find_from_yields_List}
use Rattle.guide.specs.meaning.Guide.{guide_of}
use Rattle.reading.specs.meaning.Component.{same_component}
use Rattle.rules.specs.meaning.Identifiers.{identifier_value}
use Rattle.rules.proofs.Identifiers.{find_identified}
use Rattle.rules.proofs.identifier.find_identifier.Goals as goal

pub returns : goal.returns
returns c =
    sym (option_map_id c.find.result)
    ∙ find_from_yields_List (λ p. same_component c.args.value.now (identifier_value (guide_of c.args.book.now) p)) _ _ c.find.result c.find.ensures.ran
    (YieldsList-from_range 0 c.identifiers.result (guide_of c.args.book.now).identifiers (cc) (omega (arith, c.identifiers.ensures.0))) (λ x b q k. search (rules, tests))
    ∙ find_identified (guide_of c.args.book.now) c.args.value.now 0 (guide_of c.args.book.now).identifiers
