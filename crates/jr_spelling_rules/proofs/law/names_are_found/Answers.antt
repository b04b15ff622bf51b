use Rattle.jr_spelling_rules.proofs.Found.{looked_up, looked_up_only}
use Rattle.jr_spelling_rules.proofs.law.names_are_found.Goals as goal

pub returns : goal.returns
returns c = record {
  found = λ p t o b k x headed. looked_up p t headed o b k x;
  only = λ p t o b k x a headed h. looked_up_only p t headed o b k x a h;
}
