-- The generated workspace.
use Rattle.std.specs.Prelude.{ℕ, zero, suc, List, ◌++◌, codes, decimal}
use Rattle.std.specs.FinMap as map
use Rattle.jr_base.specs.Files.{FileMap}

abbrev pub path_of : ℕ → List ℕ
path_of number = codes "g/C" ++ (decimal number ++ codes ".java")

-- what the method `step` of the class gives back
abbrev pub returned_by : ℕ → List ℕ
returned_by zero = codes "b"
returned_by (suc before) = codes "C" ++ (decimal before ++ codes ".step(b)")

unfoldable pub head_of : ℕ → List ℕ
head_of number = codes "package g;\n\npublic class C" ++ (decimal number ++ (codes " {\n  int x = " ++ (decimal number ++ codes ";\n")))

unfoldable pub step_of : ℕ → List ℕ → List ℕ
step_of number value =
    codes "  public static int step(int a) {\n    int b = a + " ++ (decimal number ++ (codes ";\n    b = b * 3;\n    return " ++ (value ++ codes ";\n  }\n")))

unfoldable pub tail_of : ℕ → List ℕ
tail_of number =
    codes "  int next(int y) {\n    return x + y;\n  }\n  public static void main(String[] args) {\n    System.out.println(step("
    ++ (decimal number ++ (codes ") + new C" ++ (decimal number ++ codes "().next(1));\n  }\n}\n")))

-- the class of that number
abbrev pub text_of : ℕ → List ℕ
text_of number = head_of number ++ (step_of number (returned_by number) ++ tail_of number)

-- the first classes, numbered from 0
abbrev pub workspace_of : ℕ → FileMap
workspace_of zero = map.empty
workspace_of (suc number) = map.insert (workspace_of number) (path_of number) (text_of number)
