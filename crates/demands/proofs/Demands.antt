-- The three demands, proved: of every service character set that is good, and so of the standard one.
use Rattle.reading.specs.meaning.Service.{GoodService, standard}
use Rattle.reading.specs.declared.service.Service.{Service}
use Rattle.reading_laws.proofs.Services.{good_standard}
use Rattle.fields.specs.meaning.Number.{GoodMark}
use Rattle.fields_laws.proofs.Numbers.{good_mark_standard}
use Rattle.demands.specs.meaning.Demands.{Certain}
use Rattle.demands.proofs.DemandOne as one
use Rattle.demands.proofs.DemandTwo as two
use Rattle.demands.proofs.DemandThree as three

pub certain : (s : Service) → GoodService s → GoodMark s → Certain s
certain s service mark =
    record {
      demand_1 = one.demand_1 s service;
      demand_2 = two.demand_2 s service mark;
      demand_3 = three.demand_3 s service;
    }

-- what `judge` promises is said of these
pub certain_standard : Certain standard
certain_standard = certain standard good_standard good_mark_standard
