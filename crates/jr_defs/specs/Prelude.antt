-- The prelude: the texts of the units java.lang and java.io, which stand before all others.
use Rattle.std.specs.Prelude.{ℕ, List, [], ◌∷◌, ◌++◌, codes}

abbrev pub lang_package : List ℕ
lang_package =
    codes "package java.lang;\n"

abbrev pub object_text : List ℕ
object_text =
    codes "public class Object {\n" ++ (
    codes "  public Object() { }\n" ++ (
    codes "  public boolean equals(Object o) { return this == o; }\n" ++ (
    codes "  public native int hashCode();\n" ++ (
    codes "  public String toString() { return \"object\"; }\n" ++ (
    codes "}\n")))))

abbrev pub string_text : List ℕ
string_text =
    codes "public final class String {\n" ++ (
    codes "  private String() { }\n" ++ (
    codes "  public native int length();\n" ++ (
    codes "  public native char charAt(int i);\n" ++ (
    codes "  public native boolean equals(Object o);\n" ++ (
    codes "  public native int hashCode();\n" ++ (
    codes "  public String toString() { return this; }\n" ++ (
    codes "}\n")))))))

abbrev pub system_text : List ℕ
system_text =
    codes "public final class System {\n" ++ (
    codes "  public static final java.io.PrintStream out = new java.io.PrintStream();\n" ++ (
    codes "  private System() { }\n" ++ (
    codes "}\n")))

abbrev pub throwable_text : List ℕ
throwable_text =
    codes "public class Throwable {\n" ++ (
    codes "  private String message;\n" ++ (
    codes "  public Throwable() { }\n" ++ (
    codes "  public Throwable(String m) { message = m; }\n" ++ (
    codes "  public String getMessage() { return message; }\n" ++ (
    codes "}\n")))))

-- a class of exceptions, below another
abbrev pub thrown_text : List ℕ → List ℕ → List ℕ
thrown_text name above =
    codes "public class " ++ (name ++ (codes " extends " ++ (above ++ (codes " {\n  public " ++ (name ++ (codes "() { }\n  public " ++ (name
    ++ codes "(String m) { super(m); }\n}\n")))))))

abbrev pub all_thrown : List (List ℕ × List ℕ) → List ℕ
all_thrown [] = []
all_thrown (c ∷ cs) = thrown_text c.0 c.1 ++ all_thrown cs

abbrev pub exceptions : List (List ℕ × List ℕ)
exceptions =
    (codes "Exception", codes "Throwable") ∷ (
    (codes "Error", codes "Throwable") ∷ (
    (codes "RuntimeException", codes "Exception") ∷ (
    (codes "ArithmeticException", codes "RuntimeException") ∷ (
    (codes "NullPointerException", codes "RuntimeException") ∷ (
    (codes "ClassCastException", codes "RuntimeException") ∷ (
    (codes "ArrayStoreException", codes "RuntimeException") ∷ (
    (codes "NegativeArraySizeException", codes "RuntimeException") ∷ (
    (codes "IndexOutOfBoundsException", codes "RuntimeException") ∷ (
    (codes "IllegalArgumentException", codes "RuntimeException") ∷ (
    (codes "IllegalStateException", codes "RuntimeException") ∷ (
    (codes "ArrayIndexOutOfBoundsException", codes "IndexOutOfBoundsException") ∷ (
    (codes "StringIndexOutOfBoundsException", codes "IndexOutOfBoundsException") ∷ []))))))))))))

-- java.lang
abbrev pub lang_text : List ℕ
lang_text = lang_package ++ (object_text ++ (string_text ++ (system_text ++ (throwable_text ++ all_thrown exceptions))))

-- what prints one value of a type, with a line end and without
abbrev pub print_text : List ℕ → List ℕ
print_text type = codes "  public void print(" ++ (type ++ codes " v) { print(\"\" + v); }\n")

abbrev pub println_text : List ℕ → List ℕ
println_text type = codes "  public void println(" ++ (type ++ codes " v) { print(\"\" + v + \"\\n\"); }\n")

abbrev pub printed : List (List ℕ)
printed = codes "boolean" ∷ (codes "char" ∷ (codes "int" ∷ (codes "long" ∷ (codes "Object" ∷ []))))

abbrev pub all_by : (List ℕ → List ℕ) → List (List ℕ) → List ℕ
all_by f [] = []
all_by f (x ∷ xs) = f x ++ all_by f xs

-- java.io
abbrev pub io_text : List ℕ
io_text =
    codes "package java.io;\npublic class PrintStream {\n  public native void print(String s);\n" ++ (all_by print_text printed ++ (
    codes "  public void println() { print(\"\\n\"); }\n" ++ (codes "  public void println(String v) { print(v + \"\\n\"); }\n" ++ (all_by println_text printed ++ codes "}\n"))))
