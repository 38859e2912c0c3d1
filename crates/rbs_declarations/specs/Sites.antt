-- Where a part stands, in the code and in the machine.
use Rattle.std.specs.Prelude.{ℕ, List}
use Rattle.rbs_terminals.specs.declared.token.Gap.{Gap}
use Rattle.rbs_terminals.specs.declared.token.Spot.{Spot}
use Rattle.rbs_declarations.specs.declared.sites.Site.{Site}
use Rattle.rbs_declarations.specs.declared.sites.Site.TheVariants as site
use Rattle.rbs_declarations.specs.Machine as machine

abbrev pub site_for : Site → machine.Site
site_for site.File = machine.in_file
site_for site.Class = machine.in_class
site_for site.Interface = machine.in_interface

-- a token's place, from the token before it on
abbrev pub spot_at : ℕ → Gap → ℕ → ℕ → List (List ℕ) → Spot
spot_at before gap start end comments = record { before = before; gap = gap; start = start; end = end; comments = comments }
