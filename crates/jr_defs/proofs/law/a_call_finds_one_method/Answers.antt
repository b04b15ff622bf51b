use Rattle.jr_defs.proofs.OneMethod.{one_method}
use Rattle.jr_defs.proofs.law.a_call_finds_one_method.Goals as goal

pub returns : goal.returns
returns c p t k m f g one h w = one_method p t one k m f g h w
