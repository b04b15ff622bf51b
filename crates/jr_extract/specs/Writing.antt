-- The statement and the method that an extraction adds: their texts, and their rows (JLS 8.4, 10.2, 14.4, 14.17).
use Rattle.std.specs.Prelude.{ℕ, zero, suc, Bool, if◌then◌else◌, List, [], ◌∷◌, ◌++◌, codes, flat_map, length, Option, Some, None}
use Rattle.jr_tree.specs.Rows.{Rows, name}
use Rattle.jr_defs.specs.declared.referent.Element.{Element}
use Rattle.jr_defs.specs.declared.referent.Element.TheVariants as element
use Rattle.jr_defs.specs.declared.referent.RowType.{RowType}
use Rattle.jr_weave.specs.Wording.{brackets, word_of}
use Rattle.jr_change.specs.declared.change.Target.TheVariants as target
use Rattle.jr_draft.specs.Drafting.{Drafted, copied, glued, plus, referred, turned}
use Rattle.jr_extract.specs.declared.locals.Variable.{Variable}
use Rattle.jr_extract.specs.declared.extraction.Extraction as code
use Rattle.jr_extract.specs.declared.run.Run.{Run}
use Rattle.jr_extract.specs.Running.{holds}

-- what a run becomes: its bytes, the name of the method and the class in which it stands, whether it is static, its parameters, the other locals that it declares, the local that it gives back, and the classes that it throws
pub record Extracted : Type 0 where
  pub run : Run
  pub text : List ℕ
  pub identifier : List ℕ
  pub class : ℕ
  pub is_static : Bool
  pub parameters : List Variable
  pub fresh : List Variable
  pub result : Option Variable
  pub thrown : List ℕ

abbrev pub extracted : code.Extraction → Extracted
extracted a = record {
  run = a.run;
  text = a.text.now;
  identifier = a.name.now;
  class = a.class;
  is_static = a.is_static;
  parameters = a.locals.now.parameters.items;
  fresh = a.locals.now.fresh.items;
  result = a.locals.now.result;
  thrown = a.thrown.now;
}

-- ---- parts of texts

-- the texts of items, the first with this before it and each other one with a comma
abbrev pub separated : {A : Type 0} → List ℕ → (A → List ℕ) → List A → List ℕ
separated lead of [] = []
separated lead of (x ∷ rest) = (lead ++ of x) ++ separated (codes ", ") of rest

abbrev pub element_text : Rows → Element → List ℕ
element_text p (element.Class c) = name p c
element_text p e = word_of e

abbrev pub type_text : Rows → RowType → List ℕ
type_text p ty = element_text p ty.element ++ brackets ty.dims

-- `T x`
abbrev pub variable_text : Rows → Variable → List ℕ
variable_text p v = type_text p v.ty ++ (codes " " ++ name p v.row)

-- `T x;` and LF
abbrev pub declaration_text : Rows → Variable → List ℕ
declaration_text p v = variable_text p v ++ codes ";\n"

abbrev pub declarations_text : Rows → List Variable → List ℕ
declarations_text p variables = flat_map (declaration_text p) variables

abbrev pub argument_text : Rows → Variable → List ℕ
argument_text p v = name p v.row

-- ---- the statement: `m(a, b);`, `r = m(a, b);` or `T r = m(a, b);`

abbrev pub assigned_text : Rows → Run → Variable → List ℕ
assigned_text p run v = if holds run v.row then variable_text p v else name p v.row

abbrev pub target_text : Rows → Run → Option Variable → List ℕ
target_text p run None = []
target_text p run (Some v) = assigned_text p run v ++ codes " = "

abbrev pub call_text : Rows → Extracted → List ℕ
call_text p e = e.identifier ++ (codes "(" ++ (separated (codes "") (argument_text p) e.parameters ++ codes ");"))

abbrev pub statement_text : Rows → Extracted → List ℕ
statement_text p e = target_text p e.run e.result ++ call_text p e

-- ---- the method

abbrev pub static_text : Bool → List ℕ
static_text is_static = if is_static then codes "static " else []

abbrev pub result_text : Rows → Option Variable → List ℕ
result_text p None = codes "void"
result_text p (Some v) = type_text p v.ty

-- an empty line, `private`, `static`, the type of the result and the name
abbrev pub begin_text : Rows → Extracted → List ℕ
begin_text p e = codes "\n\nprivate " ++ (static_text e.is_static ++ (result_text p e.result ++ (codes " " ++ e.identifier)))

-- the parameters, and the classes that it throws
abbrev pub signature_text : Rows → Extracted → List ℕ
signature_text p e = codes "(" ++ (separated (codes "") (variable_text p) e.parameters ++ (codes ")" ++ separated (codes " throws ") (name p) e.thrown))

abbrev pub given_text : Rows → Variable → List ℕ
given_text p v = (codes "return " ++ name p v.row) ++ codes ";\n"

abbrev pub return_text : Rows → Option Variable → List ℕ
return_text p None = []
return_text p (Some v) = given_text p v

-- the other locals, the run, and what is given back
abbrev pub statements_text : Rows → Extracted → List ℕ
statements_text p e = declarations_text p e.fresh ++ (e.text ++ (codes "\n" ++ return_text p e.result))

abbrev pub body_text : Rows → Extracted → List ℕ
body_text p e = codes " {\n" ++ (statements_text p e ++ codes "}")

abbrev pub method_text : Rows → Extracted → List ℕ
method_text p e = begin_text p e ++ (signature_text p e ++ body_text p e)

-- ---- rows

-- a name of one identifier that refers to what an old row declares
abbrev pub with_name : ℕ → Drafted → Drafted
with_name n d = referred d (target.Old n) None

abbrev pub with_element : Element → Drafted → Drafted
with_element (element.Class c) d = with_name c d
with_element e d = d

abbrev pub with_type : RowType → Drafted → Drafted
with_type ty d = with_element ty.element (glued d 1)

-- a parameter, whose row stands before that of its type
abbrev pub with_parameter : Variable → Drafted → Drafted
with_parameter v d = with_type v.ty (turned d v.row)

-- a declaration of a local up to its initializer, whose row stands behind that of its type
abbrev pub with_local : Variable → Drafted → Drafted
with_local v d = turned (with_type v.ty (glued d 1)) v.row

-- a declaration with the call as initializer
abbrev pub with_declared : Variable → Drafted → Drafted
with_declared v d = glued (with_local v d) 1

-- an assignment of the call, with the local to which it assigns
abbrev pub with_assigned : Variable → Drafted → Drafted
with_assigned v d = with_name v.row (glued d 2)

-- the statement of the call, up to that
abbrev pub with_target : Run → Option Variable → Drafted → Drafted
with_target run None d = glued d 1
with_target run (Some v) d = if holds run v.row then with_declared v d else with_assigned v d

abbrev pub with_arguments : List Variable → Drafted → Drafted
with_arguments [] d = d
with_arguments (v ∷ rest) d = with_arguments rest (with_name v.row d)

-- the number behind so many more
abbrev pub behind_many : ℕ → ℕ → ℕ
behind_many n zero = n
behind_many n (suc count) = plus (behind_many n count) 1

-- the row of the method: behind those of the call and its arguments, and so many others
abbrev pub method_row : List Variable → ℕ → ℕ → ℕ
method_row arguments call between = behind_many (plus (plus call 1) between) (length arguments)

-- the call refers to the method, and finds it through the class
abbrev pub with_call : Extracted → ℕ → Drafted → Drafted
with_call e between d = with_arguments e.parameters (referred d (target.New (method_row e.parameters d.count between)) (Some e.class))

abbrev pub with_result : Option Variable → Drafted → Drafted
with_result None d = d
with_result (Some v) d = with_type v.ty d

abbrev pub with_parameters : List Variable → Drafted → Drafted
with_parameters [] d = d
with_parameters (v ∷ rest) d = with_parameters rest (with_parameter v d)

abbrev pub with_thrown : List ℕ → Drafted → Drafted
with_thrown [] d = d
with_thrown (c ∷ rest) d = with_thrown rest (with_name c d)

abbrev pub with_head : Extracted → Drafted → Drafted
with_head e d = with_thrown e.thrown (with_parameters e.parameters (with_result e.result (glued d 1)))

abbrev pub with_declarations : List Variable → Drafted → Drafted
with_declarations [] d = d
with_declarations (v ∷ rest) d = with_declarations rest (with_local v d)

abbrev pub with_given : Variable → Drafted → Drafted
with_given v d = with_name v.row (glued d 1)

abbrev pub with_return : Option Variable → Drafted → Drafted
with_return None d = d
with_return (Some v) d = with_given v d

-- the block: the other locals, a copy of the run, and what is given back
abbrev pub with_body : Extracted → Drafted → Drafted
with_body e d = with_return e.result (copied (with_declarations e.fresh (glued d 1)) e.run.rows.first e.run.rows.end)

abbrev pub with_method : Extracted → Drafted → Drafted
with_method e d = with_body e (with_head e d)
