use Rattle.locate.proofs.Partners.{behind_comes_to_partner}
use Rattle.locate.proofs.laws.behind_comes_to_partner.Goals as goal

pub returns : goal.returns
returns c = behind_comes_to_partner
