use Rattle.std.proofs.Common.{leb, length, arith}
use Rattle.std.proofs.lemmas.Bool.{and_parts, leb-true}
use Rattle.family.specs.Meaning.{meaning}
use Rattle.passes.proofs.Rows.{slice_get-is_some}
use Rattle.session.specs.Begun.{start}
use Rattle.session.proofs.Law.{the_law}
use Rattle.session.proofs.fresh.Goals as goal

pub returns : goal.returns
returns g c =
    record {
      empty = c.fresh.ensures.chart;
      order = c.fresh.ensures.order;
      begins = λ records signals fits. start c.fresh.ensures.chart (λ s low. slice_get-is_some records s (omega (arith, leb-true 256 (length records) (and_parts (leb 256 (length records)) (leb 256 (length signals)) fits).0)));
      law = the_law (meaning g.F.Family) (record { few = g.met.F.Family.few; lateness = g.met.F.Family.lateness; kind = g.met.F.Family.kind });
    }
