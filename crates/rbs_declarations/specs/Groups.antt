-- Which of the reader's functions a token goes to.
use Rattle.rbs_declarations.specs.declared.state.Purpose.{Purpose}
use Rattle.rbs_declarations.specs.declared.state.Purpose.TheVariants as purpose
use Rattle.rbs_declarations.specs.declared.state.Focus.{Focus}
use Rattle.rbs_declarations.specs.declared.state.Focus.TheVariants as focus

-- the type belongs to the heading of a declaration, or to what follows here
abbrev pub IsFromParent : Purpose → Type 0
IsFromParent (purpose.Alias begun n ps) = ⊥
IsFromParent (purpose.Constant begun n) = ⊥
IsFromParent _ = Unit {0}

-- the type is that of a member, or the bound of a type parameter
abbrev pub IsFromAttribute : Purpose → Type 0
IsFromAttribute (purpose.Parent begun n ps) = ⊥
IsFromAttribute (purpose.SelfType begun n ps us) = ⊥
IsFromAttribute p = IsFromParent p

-- in an attribute, a mixin or an instance variable
abbrev pub IsOther : Focus → Type 0
IsOther (focus.Attribute begun v a) = Unit {0}
IsOther (focus.AttributeName begun v a w) = Unit {0}
IsOther (focus.Mixin begun m naming) = Unit {0}
IsOther (focus.MixinNamed begun m n) = Unit {0}
IsOther (focus.SelfWord begun) = Unit {0}
IsOther (focus.SelfDot begun) = Unit {0}
IsOther (focus.Variable begun single w) = Unit {0}
IsOther _ = ⊥

-- in the old name of an alias of a method or behind it, or in what follows
abbrev pub IsFromOldName : Focus → Type 0
IsFromOldName (focus.OldWord begun new w capital) = Unit {0}
IsFromOldName (focus.OldOperator begun new o) = Unit {0}
IsFromOldName (focus.OldName begun new old) = Unit {0}
IsFromOldName f = IsOther f

-- in the new name of an alias of a method, or in what follows
abbrev pub IsFromNewName : Focus → Type 0
IsFromNewName (focus.Alias begun) = Unit {0}
IsFromNewName (focus.NewWord begun w) = Unit {0}
IsFromNewName (focus.NewEquals begun w) = Unit {0}
IsFromNewName (focus.NewEqualsEquals begun w) = Unit {0}
IsFromNewName (focus.NewOperator begun o) = Unit {0}
IsFromNewName (focus.NewName begun new) = Unit {0}
IsFromNewName f = IsFromOldName f

-- in a method, or in what follows
abbrev pub IsFromMethod : Focus → Type 0
IsFromMethod (focus.Def begun v) = Unit {0}
IsFromMethod (focus.DefSelf begun v) = Unit {0}
IsFromMethod (focus.MethodStart begun v single) = Unit {0}
IsFromMethod (focus.MethodWord sig) = Unit {0}
IsFromMethod (focus.MethodOperator begun v single o) = Unit {0}
IsFromMethod (focus.MethodName sig) = Unit {0}
IsFromMethod (focus.Overload sig done) = Unit {0}
IsFromMethod f = IsFromNewName f

-- in the bound of a type parameter, or in what follows
abbrev pub IsFromBound : Focus → Type 0
IsFromBound (focus.Bound o done p naming) = Unit {0}
IsFromBound (focus.BoundNamed o done p m) = Unit {0}
IsFromBound (focus.BoundSingleton o done p) = Unit {0}
IsFromBound (focus.BoundClass o done p naming) = Unit {0}
IsFromBound f = IsFromMethod f

-- among type parameters, or in what follows
abbrev pub IsFromParam : Focus → Type 0
IsFromParam (focus.Param o done) = Unit {0}
IsFromParam (focus.Unchecked o done) = Unit {0}
IsFromParam (focus.Varied o done unchecked v) = Unit {0}
IsFromParam (focus.ParamName o done p) = Unit {0}
IsFromParam (focus.Bounded o ps) = Unit {0}
IsFromParam (focus.Parameterized o ps) = Unit {0}
IsFromParam f = IsFromBound f

-- in the heading of a declaration, or in what follows here
abbrev pub IsFromHeading : Focus → Type 0
IsFromHeading (focus.Name begun x naming) = Unit {0}
IsFromHeading (focus.Named begun x n) = Unit {0}
IsFromHeading (focus.Parent begun n ps naming) = Unit {0}
IsFromHeading (focus.SelfType begun n ps us naming) = Unit {0}
IsFromHeading (focus.SelfNamed begun n ps us m) = Unit {0}
IsFromHeading f = IsFromParam f
