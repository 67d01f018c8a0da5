use Rattle.locate.proofs.Partners.{ahead_comes_to_partner}
use Rattle.locate.proofs.laws.ahead_comes_to_partner.Goals as goal

pub returns : goal.returns
returns c = ahead_comes_to_partner
