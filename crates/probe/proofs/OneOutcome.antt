-- Law one-outcome, of the probe: two outcomes that meet a promise are the same answer, and leave the same tables.
use mathlib.Core.Path.{◌≡◌, sym, ◌∙◌}
use Rattle.reading_laws.proofs.OneOutcome.{One}
use Rattle.probe.proofs.probe_message.Reads as message
use Rattle.probe.proofs.probe_next.Reads as next
use Rattle.probe.proofs.probe_place.Reads as place
use Rattle.probe.proofs.probe_write_tree.Reads as write_tree

pub one_message : One message.Post
one_message κs a r q x y m n = m ∙ sym n

pub one_next : One next.Post
one_next κs a r q x y m n = m ∙ sym n

pub one_place : One place.Post
one_place κs a r q x y m n = m ∙ sym n

-- of the arguments at exit, the lent tables are the last three
pub one_write_tree : (κs : _) (a : _) (r q : _) (x y : _) → write_tree.Post κs a r x → write_tree.Post κs a q y
    → (x.1.1.1.0.now ≡ y.1.1.1.0.now) × (x.1.1.1.1.0.now ≡ y.1.1.1.1.0.now) × (x.1.1.1.1.1.0.now ≡ y.1.1.1.1.1.0.now)
one_write_tree κs a r q x y m n = (m.0 ∙ sym n.0, m.1 ∙ sym n.1, m.2 ∙ sym n.2)
