use Rattle.std.proofs.Common.{◌≡◌, subst}
use Rattle.pt_tables_rows.specs.Schema.{IsEarlier}
use Rattle.pt_tables_opening.proofs.earlier_version.earlier_version_of.Goals as goal

pub is_of_version-requires : goal.is_of_version-requires
is_of_version-requires g c = record { earlier = ((c.in_ok-version.ensures.value c.in-Some.version).0 c.in-Some.is).0 }

pub returns-clause-earlier : goal.returns-clause-earlier
returns-clause-earlier g c version same =
    let is : c.in-Some.version ≡ version = cc in
    subst IsEarlier is (((c.in_ok-version.ensures.value c.in-Some.version).0 c.in-Some.is).0)
