-- `certifying::certify::certify` meets its contract: the distance is carried along the answer. Assumes nothing.
use Rattle.std.proofs.Common.{◌≡◌, rules, sym, subst}
use Rattle.reading.specs.Reading.{reading}
use Rattle.certifying.specs.Certify.{CertifiedDistance, certifying}
use Rattle.certifying.proofs.Laws.Certify.{certified_distance}
use Rattle.dual_problem.proofs.Laws.FileProblem.Read.{read_as_ranges}
use Rattle.certifying.proofs.certify.certify.Goals as goal

pub certify_read-requires : goal.certify_read-requires
certify_read-requires c = read_as_ranges c.args.file.now _ _ c.read.ensures c.in_ok-problem.was

pub returns-clause-distance : goal.returns-clause-distance
returns-clause-distance c =
    let file = c.args.file.now in
    let a = c.args.multipliers.now in
    let is : c.certify_read.result ≡ certifying file a = search rules in
    subst (CertifiedDistance (reading file) a) (sym is) (certified_distance file a)
