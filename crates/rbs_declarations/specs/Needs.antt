-- What a state of the reader of declarations needs: the height of the highest type of each text that goes on from it, and how many brackets and words are open at some place of each.
use Rattle.std.specs.Prelude.{ℕ, ◌+◌, ◌-◌, max, List, [], ◌∷◌, length}
use Rattle.sig_model.specs.Height.{tallest}
use Rattle.rbs_types.specs.Needs as types
use Rattle.rbs_declarations.specs.declared.state.Sort.{Sort}
use Rattle.rbs_declarations.specs.declared.state.Sort.TheVariants as sort
use Rattle.rbs_declarations.specs.declared.state.Heading.{Heading}
use Rattle.rbs_declarations.specs.declared.state.Heading.TheVariants as heading
use Rattle.rbs_declarations.specs.declared.state.Frame.{Frame}
use Rattle.rbs_declarations.specs.declared.state.Owner.{Owner}
use Rattle.rbs_declarations.specs.declared.state.Owner.TheVariants as owner
use Rattle.rbs_declarations.specs.declared.state.Purpose.{Purpose}
use Rattle.rbs_declarations.specs.declared.state.Purpose.TheVariants as purpose
use Rattle.rbs_declarations.specs.declared.state.Focus.{Focus}
use Rattle.rbs_declarations.specs.declared.state.Focus.TheVariants as focus
use Rattle.rbs_declarations.specs.declared.state.State.{State}
use Rattle.rbs_declarations.specs.Heights.{option_height, params_height, methods_height, parts_height, decls_height}

abbrev pub heading_height : Heading → ℕ
heading_height (heading.Class n ps t) = max (params_height ps) (option_height t)
heading_height (heading.Module n ps us) = max (params_height ps) (tallest us)
heading_height (heading.Interface n ps) = params_height ps

abbrev pub frames_height : List Frame → ℕ
frames_height [] = 0
frames_height (f ∷ fs) = max (max (heading_height f.heading) (parts_height f.parts)) (frames_height fs)

abbrev pub owner_height : Owner → ℕ
owner_height (owner.Heading begun x n) = 0
owner_height (owner.Overload sig done) = methods_height done

abbrev pub purpose_height : Purpose → ℕ
purpose_height (purpose.Alias begun n ps) = params_height ps
purpose_height (purpose.Overload sig done ps) = max (methods_height done) (params_height ps)
purpose_height (purpose.Parent begun n ps) = params_height ps
purpose_height (purpose.SelfType begun n ps us) = max (params_height ps) (tallest us)
purpose_height (purpose.Bound o done p) = max (owner_height o) (params_height done)
purpose_height _ = 0

-- the height of the highest type of a phrase whose tree has the height `h`: a function is no type, but its parts are
abbrev pub phrase_height : Purpose → ℕ → ℕ
phrase_height (purpose.Overload sig done ps) h = h - 1
phrase_height _ h = h

-- the height of the highest of the types that are whole at the focus
abbrev pub focus_height : Focus → ℕ
focus_height (focus.Param o done) = max (owner_height o) (params_height done)
focus_height (focus.Unchecked o done) = max (owner_height o) (params_height done)
focus_height (focus.Varied o done unchecked v) = max (owner_height o) (params_height done)
focus_height (focus.ParamName o done p) = max (owner_height o) (params_height done)
focus_height (focus.Bound o done p naming) = max (owner_height o) (params_height done)
focus_height (focus.BoundNamed o done p m) = max (owner_height o) (params_height done)
focus_height (focus.BoundSingleton o done p) = max (owner_height o) (params_height done)
focus_height (focus.BoundClass o done p naming) = max (owner_height o) (params_height done)
focus_height (focus.Bounded o ps) = max (owner_height o) (params_height ps)
focus_height (focus.Parameterized o ps) = max (owner_height o) (params_height ps)
focus_height (focus.Parent begun n ps naming) = params_height ps
focus_height (focus.SelfType begun n ps us naming) = max (params_height ps) (tallest us)
focus_height (focus.SelfNamed begun n ps us m) = max (params_height ps) (tallest us)
focus_height (focus.Overload sig done) = methods_height done
focus_height (focus.Typed p i) = max (purpose_height p) (phrase_height p (types.need i))
focus_height _ = 0

abbrev pub need : State → ℕ
need m = max (decls_height m.decls) (max (frames_height m.frames) (focus_height m.focus))

-- the declaration of this sort is closed by an `end`
abbrev pub sort_open : Sort → ℕ
sort_open sort.Alias = 0
sort_open sort.Constant = 0
sort_open _ = 1

abbrev pub owner_open : Owner → ℕ
owner_open (owner.Heading begun x n) = sort_open x
owner_open (owner.Overload sig done) = 0

abbrev pub purpose_open : Purpose → ℕ
purpose_open (purpose.Parent begun n ps) = 1
purpose_open (purpose.SelfType begun n ps us) = 1
purpose_open (purpose.Bound o done p) = owner_open o + 1
purpose_open _ = 0

-- the brackets and words that a focus opens, aside from those that are open inside of a type
abbrev pub focus_open : Focus → ℕ
focus_open (focus.Name begun x naming) = sort_open x
focus_open (focus.Named begun x n) = sort_open x
focus_open (focus.Param o done) = owner_open o + 1
focus_open (focus.Unchecked o done) = owner_open o + 1
focus_open (focus.Varied o done unchecked v) = owner_open o + 1
focus_open (focus.ParamName o done p) = owner_open o + 1
focus_open (focus.Bound o done p naming) = owner_open o + 1
focus_open (focus.BoundNamed o done p m) = owner_open o + 1
focus_open (focus.BoundSingleton o done p) = owner_open o + 1
focus_open (focus.BoundClass o done p naming) = owner_open o + 2
focus_open (focus.Bounded o ps) = owner_open o + 1
focus_open (focus.Parameterized o ps) = owner_open o
focus_open (focus.Parent begun n ps naming) = 1
focus_open (focus.SelfType begun n ps us naming) = 1
focus_open (focus.SelfNamed begun n ps us m) = 1
focus_open (focus.Typed p i) = purpose_open p
focus_open _ = 0

abbrev pub inner_open : Focus → ℕ
inner_open (focus.Typed p i) = (types.depth i).sure
inner_open _ = 0

abbrev pub inner_reach : Focus → ℕ
inner_reach (focus.Typed p i) = types.reach i
inner_reach (focus.BoundSingleton o done p) = 1
inner_reach _ = 0

-- how many parentheses, brackets, braces and words closed by `end` are open at the place; an empty pair of parentheses isn't counted
abbrev pub opened : State → ℕ
opened m = length m.frames + (focus_open m.focus + inner_open m.focus)

-- the least number that is open at once at some place of a text that goes on from the state
abbrev pub reach : State → ℕ
reach m = length m.frames + (focus_open m.focus + inner_reach m.focus)
