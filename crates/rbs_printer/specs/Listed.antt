-- Texts that are listed one after another, and where a type stands as the code tells it.
use Rattle.std.specs.Prelude.{ℕ, Bool, true, codes, List, [], ◌∷◌, ◌++◌}
use Rattle.rbs_printer.specs.Texts.{where_set}
use Rattle.rbs_printer.specs.Types as site
use Rattle.rbs_printer.specs.Types.{argument_texts, rest_texts, key_texts}
use Rattle.sig_model.specs.PlainTy as plain
use Rattle.sig_model.specs.PlainTy.{PlainFun}
use Rattle.rbs_printer.specs.declared.types.Site.{Site}
use Rattle.rbs_printer.specs.declared.types.Site.TheVariants as a_site

-- texts with another before each, but before the first only where something was listed before
abbrev pub listed : Bool → List ℕ → List (List ℕ) → List ℕ
listed before by [] = []
listed before by (w ∷ ws) = where_set before by ++ w ++ listed true by ws

-- something was listed before these, or is of them
abbrev pub some_listed : Bool → List (List ℕ) → Bool
some_listed before [] = before
some_listed before (w ∷ ws) = true

abbrev pub site_of : Site → site.Site
site_of a_site.Whole = site.whole
site_of a_site.InUnion = site.in_union
site_of a_site.InInter = site.in_inter
site_of a_site.BeforeQuestion = site.before_question
site_of a_site.Behind = site.result

-- the parameters of a function
abbrev pub parameter_texts : PlainFun → List (List ℕ)
parameter_texts (plain.function required optional more trailing keys key_more blk t) =
    argument_texts [] required ++ argument_texts (codes "?") optional ++ rest_texts (codes "*") more ++ argument_texts [] trailing ++ key_texts keys ++ rest_texts (codes "**") key_more
