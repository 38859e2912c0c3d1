-- The classes of values that hold no others.
use Rattle.std.specs.Prelude.{[], ◌∷◌}
use Rattle.sig_model.specs.PlainDecl.{PlainDecl}
use Rattle.core_texts.specs.Types.{none, one, void, bool, self_type, integer, string, symbol}
use Rattle.core_texts.specs.Shapes.{takes, takes_block, yields, def, together, class}

abbrev pub symbol_class : PlainDecl
symbol_class = class 493 537 "Symbol" (together (
    def 508 533 "length" (takes none integer)
    ∷ []))

abbrev pub integer_class : PlainDecl
integer_class = class 538 969 "Integer" (together (
    def 554 581 "+" (takes (one integer) integer)
    ∷ def 584 611 "-" (takes (one integer) integer)
    ∷ def 614 641 "*" (takes (one integer) integer)
    ∷ def 644 671 "/" (takes (one integer) integer)
    ∷ def 674 701 "%" (takes (one integer) integer)
    ∷ def 704 725 "-@" (takes none integer)
    ∷ def 728 752 "<" (takes (one integer) bool)
    ∷ def 755 780 "<=" (takes (one integer) bool)
    ∷ def 783 807 ">" (takes (one integer) bool)
    ∷ def 810 835 ">=" (takes (one integer) bool)
    ∷ def 838 867 "<=>" (takes (one integer) integer)
    ∷ def 870 913 "times" (yields (one integer) void self_type)
    ∷ def 916 965 "upto" (takes_block (one integer) (one integer) void self_type)
    ∷ []))

abbrev pub string_class : PlainDecl
string_class = class 970 1125 "String" (together (
    def 985 1010 "+" (takes (one string) string)
    ∷ def 1013 1041 "<=>" (takes (one string) integer)
    ∷ def 1044 1069 "length" (takes none integer)
    ∷ def 1072 1094 "empty?" (takes none bool)
    ∷ def 1097 1121 "to_sym" (takes none symbol)
    ∷ []))
