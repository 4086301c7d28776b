use Rattle.plain.proofs.Accounting.{signing_accounts}
use Rattle.plain.proofs.Width.{candidate_bits}
use Rattle.plain.proofs.Twins.{signings_alike}
use Rattle.plain.proofs.laws_hold.Goals as goal

pub returns : goal.returns
returns c = record { bits = candidate_bits; accounts = signing_accounts; alike = signings_alike }
