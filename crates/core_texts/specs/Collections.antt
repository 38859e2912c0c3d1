-- The classes of values that hold others.
use Rattle.std.specs.Prelude.{codes, [], ◌∷◌}
use Rattle.sig_model.specs.PlainDecl.{PlainDecl, PlainParts, append_parts}
use Rattle.core_texts.specs.Types.{none, one, two, optional, array_of, pair_of, void, top, bool, self_type, integer, boolish, a, e, k, u, v}
use Rattle.core_texts.specs.Shapes.{takes, takes_block, yields, generic, def, private_at, together, unchecked_out, generic_class}

-- the members of an array that take no block
abbrev pub array_elements : PlainParts
array_elements = together (
    def 1157 1182 "length" (takes none integer)
    ∷ def 1185 1207 "empty?" (takes none bool)
    ∷ def 1210 1233 "[]" (takes (one integer) (optional e))
    ∷ def 1236 1261 "fetch" (takes (one integer) e)
    ∷ def 1264 1285 "push" (takes (one e) self_type)
    ∷ def 1288 1307 "<<" (takes (one e) self_type)
    ∷ def 1310 1327 "pop" (takes none (optional e))
    ∷ def 1330 1349 "shift" (takes none (optional e))
    ∷ def 1352 1381 "+" (takes (one (array_of e)) (array_of e))
    ∷ def 1384 1405 "==" (takes (one top) bool)
    ∷ def 1408 1435 "include?" (takes (one top) bool)
    ∷ [])

-- those that take one
abbrev pub array_blocks : PlainParts
array_blocks = together (
    def 1438 1474 "each" (yields (one e) void self_type)
    ∷ def 1477 1517 "map" (generic "U" (yields (one e) u (array_of u)))
    ∷ def 1520 1565 "select" (yields (one e) boolish (array_of e))
    ∷ def 1568 1607 "any?" (yields (one e) boolish bool)
    ∷ def 1610 1647 "find" (yields (one e) boolish (optional e))
    ∷ def 1650 1690 "inject" (generic "A" (takes_block (one a) (two a e) a a))
    ∷ [])

abbrev pub array_private : PlainParts
array_private = together (
    private_at 1693 1700
    ∷ def 1703 1735 "__copy" (takes (one top) (optional (array_of top)))
    ∷ [])

abbrev pub array_class : PlainDecl
array_class = generic_class 1126 1739 "Array" (unchecked_out (codes "E") ∷ []) (append_parts array_elements (append_parts array_blocks array_private))

abbrev pub hash_class : PlainDecl
hash_class = generic_class 1740 2147 "Hash" (unchecked_out (codes "K") ∷ unchecked_out (codes "V") ∷ []) (together (
    def 1787 1812 "length" (takes none integer)
    ∷ def 1815 1837 "empty?" (takes none bool)
    ∷ def 1840 1857 "[]" (takes (one k) (optional v))
    ∷ def 1860 1880 "[]=" (takes (two k v) v)
    ∷ def 1883 1902 "fetch" (takes (one k) v)
    ∷ def 1905 1926 "key?" (takes (one k) bool)
    ∷ def 1929 1950 "delete" (takes (one k) (optional v))
    ∷ def 1953 1977 "keys" (takes none (array_of k))
    ∷ def 1980 2006 "values" (takes none (array_of v))
    ∷ def 2009 2050 "each" (yields (one (pair_of k v)) void self_type)
    ∷ def 2053 2098 "map" (generic "U" (yields (one (pair_of k v)) u (array_of u)))
    ∷ private_at 2101 2108
    ∷ def 2111 2143 "__pairs" (takes none (array_of (pair_of k v)))
    ∷ []))
