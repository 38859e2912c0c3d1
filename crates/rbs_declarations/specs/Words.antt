-- What single tokens of declarations stand for.
use Rattle.std.specs.Prelude.{ℕ, Bool, true, false, ◌&&◌, codes, List, [], ◌∷◌, Option, Some, None}
use Rattle.rbs_terminals.specs.declared.token.Token.{Token}
use Rattle.rbs_terminals.specs.declared.token.Spot.{Spot}
use Rattle.rbs_terminals.specs.declared.token.Gap.{Gap}
use Rattle.rbs_terminals.specs.declared.token.Gap.TheVariants as gap
use Rattle.rbs_terminals.specs.declared.token.Mark.{Mark}
use Rattle.rbs_terminals.specs.declared.token.Mark.TheVariants as mark
use Rattle.rbs_terminals.specs.declared.token.Keyword.{Keyword}
use Rattle.rbs_terminals.specs.declared.token.Keyword.TheVariants as keyword
use Rattle.rbs_terminals.specs.declared.token.Kind.{Kind}
use Rattle.rbs_terminals.specs.declared.token.Kind.TheVariants as kind
use Rattle.rbs_terminals.specs.Keywords.{keyword_text}
use Rattle.sig_model.specs.declared.decl.Variance.{Variance}
use Rattle.sig_model.specs.declared.decl.Variance.TheVariants as variance
use Rattle.sig_model.specs.declared.decl.Vis.{Vis}
use Rattle.sig_model.specs.declared.decl.Vis.TheVariants as vis
use Rattle.sig_model.specs.declared.decl.AttrKind.{AttrKind}
use Rattle.sig_model.specs.declared.decl.AttrKind.TheVariants as attribute
use Rattle.sig_model.specs.declared.decl.MixKind.{MixKind}
use Rattle.sig_model.specs.declared.decl.MixKind.TheVariants as mixin
use Rattle.rbs_types.specs.Symbols.{on_line}
use Rattle.rbs_declarations.specs.declared.operators.Operator.{Operator}
use Rattle.rbs_declarations.specs.Operators.{extended}

abbrev pub vis_of : Keyword → Option Vis
vis_of keyword.Private = Some vis.Private
vis_of keyword.Public = Some vis.Public
vis_of _ = None

abbrev pub attribute_of : Keyword → Option AttrKind
attribute_of keyword.AttrReader = Some attribute.Reader
attribute_of keyword.AttrWriter = Some attribute.Writer
attribute_of keyword.AttrAccessor = Some attribute.Accessor
attribute_of _ = None

abbrev pub mixin_of : Keyword → Option MixKind
mixin_of keyword.Include = Some mixin.Include
mixin_of keyword.Extend = Some mixin.Extend
mixin_of keyword.Prepend = Some mixin.Prepend
mixin_of _ = None

abbrev pub variance_of : Keyword → Option Variance
variance_of keyword.Out = Some variance.Out
variance_of keyword.In = Some variance.In
variance_of _ = None

-- a word that a method's name may begin with
abbrev pub method_word : Kind → Option (List ℕ)
method_word (kind.Lower w) = Some w
method_word (kind.Upper w) = Some w
method_word (kind.Keyword k) = Some (keyword_text k)
method_word _ = None

-- a capital word, which a `::` on its line would go on with
abbrev pub is_capital : Kind → Bool
is_capital (kind.Upper w) = true
is_capital _ = false

-- the token stands directly behind the one before it
abbrev pub is_joined : Spot → Bool
is_joined s = joined s.gap
  where
    joined : Gap → Bool
    joined gap.Joined = true
    joined _ = false

-- the mark with which a method's name may end
abbrev pub ending_of : Mark → Option (List ℕ)
ending_of mark.Question = Some (codes "?")
ending_of mark.Bang = Some (codes "!")
ending_of mark.Equals = Some (codes "=")
ending_of _ = None

abbrev pub extended_at : Operator → Kind → Spot → Option Operator
extended_at o (kind.Mark m) s = extended_if (is_joined s) o m
  where
    extended_if : Bool → Operator → Mark → Option Operator
    extended_if true o m = extended o m
    extended_if false o m = None
extended_at o _ s = None

-- what an operator becomes by the token that follows, where that stands directly behind it and goes on with it
abbrev pub extension : Operator → List Token → Option Operator
extension o [] = None
extension o (c ∷ ts) = extended_at o c.kind c.spot

-- the token begins a member that a visibility before it belongs to
abbrev pub takes_vis : Kind → Bool
takes_vis (kind.Keyword keyword.Def) = true
takes_vis (kind.Keyword keyword.AttrReader) = true
takes_vis (kind.Keyword keyword.AttrWriter) = true
takes_vis (kind.Keyword keyword.AttrAccessor) = true
takes_vis _ = false

-- a visibility belongs to the member that follows on its line
abbrev pub vis_belongs : List Token → Bool
vis_belongs [] = false
vis_belongs (c ∷ ts) = on_line c.spot && takes_vis c.kind

-- where the first token begins
abbrev pub start_at : List Token → ℕ
start_at [] = 0
start_at (c ∷ ts) = c.spot.start

-- where the token before these ends; `last` is where the whole text's last token ends
abbrev pub end_at : (last : ℕ) → List Token → ℕ
end_at last [] = last
end_at last (c ∷ ts) = c.spot.before

-- the comments that the first token carries
abbrev pub comments_at : List Token → List (List ℕ)
comments_at [] = []
comments_at (c ∷ ts) = c.spot.comments
