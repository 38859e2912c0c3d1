-- The words that the grammar keeps for itself.
use Rattle.std.specs.Prelude.{ℕ, codes, List, [], ◌∷◌, find, Option, Some, None}
use Rattle.names.specs.Places.{same_name}
use Rattle.sig_model.specs.declared.ty.BaseTy.{BaseTy}
use Rattle.sig_model.specs.declared.ty.BaseTy.TheVariants as base
use Rattle.rbs_terminals.specs.declared.token.Keyword.{Keyword}
use Rattle.rbs_terminals.specs.declared.token.Keyword.TheVariants as keyword

abbrev pub keyword_text : Keyword → List ℕ
keyword_text keyword.Class = codes "class"
keyword_text keyword.Module = codes "module"
keyword_text keyword.Interface = codes "interface"
keyword_text keyword.Type = codes "type"
keyword_text keyword.Def = codes "def"
keyword_text keyword.End = codes "end"
keyword_text keyword.Include = codes "include"
keyword_text keyword.Extend = codes "extend"
keyword_text keyword.Prepend = codes "prepend"
keyword_text keyword.Alias = codes "alias"
keyword_text keyword.AttrReader = codes "attr_reader"
keyword_text keyword.AttrWriter = codes "attr_writer"
keyword_text keyword.AttrAccessor = codes "attr_accessor"
keyword_text keyword.Private = codes "private"
keyword_text keyword.Public = codes "public"
keyword_text keyword.Singleton = codes "singleton"
keyword_text keyword.Unchecked = codes "unchecked"
keyword_text keyword.Out = codes "out"
keyword_text keyword.In = codes "in"
keyword_text keyword.SelfWord = codes "self"
keyword_text keyword.Instance = codes "instance"
keyword_text keyword.True = codes "true"
keyword_text keyword.False = codes "false"
keyword_text keyword.Nil = codes "nil"
keyword_text keyword.Bool = codes "bool"
keyword_text keyword.Void = codes "void"
keyword_text keyword.Top = codes "top"
keyword_text keyword.Bot = codes "bot"
keyword_text keyword.Untyped = codes "untyped"

abbrev pub keywords : List Keyword
keywords = keyword.Class ∷ keyword.Module ∷ keyword.Interface ∷ keyword.Type ∷ keyword.Def ∷ keyword.End ∷ keyword.Include ∷ keyword.Extend ∷ keyword.Prepend ∷ keyword.Alias
    ∷ keyword.AttrReader ∷ keyword.AttrWriter ∷ keyword.AttrAccessor ∷ keyword.Private ∷ keyword.Public ∷ keyword.Singleton ∷ keyword.Unchecked ∷ keyword.Out ∷ keyword.In ∷ keyword.SelfWord
    ∷ keyword.Instance ∷ keyword.True ∷ keyword.False ∷ keyword.Nil ∷ keyword.Bool ∷ keyword.Void ∷ keyword.Top ∷ keyword.Bot ∷ keyword.Untyped ∷ []

-- the first of these keywords that the word is, letter for letter
abbrev pub keyword_among : List ℕ → List Keyword → Option Keyword
keyword_among w ks = find (λ k. same_name w (keyword_text k)) ks

abbrev pub keyword_of : List ℕ → Option Keyword
keyword_of w = keyword_among w keywords

-- a keyword that is a type
abbrev pub base_of : Keyword → Option BaseTy
base_of keyword.True = Some base.True
base_of keyword.False = Some base.False
base_of keyword.Nil = Some base.Nil
base_of keyword.Bool = Some base.Bool
base_of keyword.Void = Some base.Void
base_of keyword.Top = Some base.Top
base_of keyword.Bot = Some base.Bot
base_of keyword.SelfWord = Some base.SelfTy
base_of keyword.Instance = Some base.Instance
base_of keyword.Class = Some base.ClassTy
base_of keyword.Untyped = Some base.Untyped
base_of _ = None
