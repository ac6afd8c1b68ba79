-- `edition::edition_numbered` meets its contract: its sizes are those of the meaning, one return an edition.
use mathlib.Core.Path.{refl}
use Rattle.guide.specs.meaning.Edition.{edition_numbered}
use Rattle.guide.proofs.Editions.{sizes_within}
use Rattle.guide.proofs.edition.edition_numbered.Goals as goal

pub returns : goal.returns
unfolding edition_numbered
returns c = record { number = refl; header = refl; line = refl; code = refl; field = refl; identifier = refl; row = refl; within = sizes_within c.args.number }
