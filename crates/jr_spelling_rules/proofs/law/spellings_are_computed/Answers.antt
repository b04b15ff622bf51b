use Rattle.jr_spelling_rules.proofs.Fitted.{fits_so_tells, fits_tells, first_such_is, first_found, no_such}
use Rattle.jr_spelling_rules.proofs.Spelled.{spelling_is, spelling_found, no_spelling}
use Rattle.jr_spelling_rules.specs.Fitting.{Fits, fits}
use Rattle.jr_spelling_rules.proofs.law.spellings_are_computed.Goals as goal

pub returns : goal.returns
returns c = record {
  so = λ p t variable was_constant headed tells n found receiver through form. fits_so_tells p t variable was_constant headed tells n found receiver through form;
  fits = λ p t variable was_constant headed tells n it. fits_tells p t variable was_constant headed tells n it;
  first = λ p t variable was_constant headed tells n all it.
      let told = fits_tells p t variable was_constant headed tells n in
      (first_such_is (Fits p t n was_constant) (fits p t n was_constant variable) told all it, λ h. first_found (Fits p t n was_constant) (fits p t n was_constant variable) told h);
  no_first = λ p t variable was_constant headed tells n all h. no_such (Fits p t n was_constant) (fits p t n was_constant variable) (fits_tells p t variable was_constant headed tells n) all h;
  spelling = λ p t type_of variable was_constant headed tells first n it.
      (spelling_is p t type_of was_constant first n variable headed tells it, λ h. spelling_found p t type_of was_constant first n variable headed tells h);
  none = λ p t type_of variable was_constant headed tells first n h. no_spelling p t type_of was_constant first n variable headed tells h;
}
