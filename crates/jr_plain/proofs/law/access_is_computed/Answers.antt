use Rattle.jr_plain.proofs.Accessed.{through_tells, by_protected_tells, accessible_tells}
use Rattle.jr_plain.proofs.law.access_is_computed.Goals as goal

pub returns : goal.returns
returns c = record {
  through = λ p t s d receiver headed. through_tells p t headed s d receiver;
  protecteds = λ p t d o receiver headed. by_protected_tells p t headed d o receiver;
  access = λ p t d o receiver headed. accessible_tells p t headed d o receiver;
}
