-- How code, types and a core are stored.
use Rattle.std.specs.Coded.{Coded, code_by}
use Rattle.jr_base.specs.declared.ty.Ty as declared_ty
use Rattle.jr_base.specs.contracts.ty.Ty as stored_ty
use Rattle.jr_base.specs.Mirror.{Ty, plain_ty}
use Rattle.jr_base.proofs.Same.{tree_ty, plain_tree_ty}
use Rattle.jr_core.specs.declared.code.Code as declared_code
use Rattle.jr_core.specs.contracts.code.Code as stored_code
use Rattle.jr_core.specs.declared.bodies.Core as declared_core
use Rattle.jr_core.specs.contracts.bodies.Core as stored_core
use Rattle.jr_core.specs.Mirror.{Code, plain_code, Core, plain_core}
use Rattle.jr_core.proofs.Same.{tree_code, plain_tree_code, tree_core, plain_tree_core}

-- a type is stored as that of the program
abbrev pub code_of_ty : Coded Ty
code_of_ty = code_by declared_ty.Ty stored_ty.the_row.coded tree_ty plain_ty plain_tree_ty

-- code is stored as that of the program
abbrev pub code_of_code : Coded Code
code_of_code = code_by declared_code.Code stored_code.the_row.coded tree_code plain_code plain_tree_code

-- a core is stored as that of the program
abbrev pub code_of_core : Coded Core
code_of_core = code_by declared_core.Core stored_core.the_row.coded tree_core plain_core plain_tree_core
