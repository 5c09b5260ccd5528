use Rattle.tv_concrete.proofs.Concretes.{concretes-agree}
use Rattle.tv_concrete.proofs.laws.at_most_one_is_concrete.Goals as goal

pub returns : goal.returns
returns c = λ p valid h k hh kh hc kc same q tuple. concretes-agree p valid h k hh kh hc kc same q tuple
