-- The rules of a class that do not speak of its bytes (JVMS 4).
use Rattle.std.specs.Prelude.{ℕ, ◌+◌, List, [], ◌∷◌, Bool, true, false, not, ◌&&◌, ◌||◌, ◌==◌, nat_lt, nat_le, Option, Some, None, IsTrue, is_none, length, codes, if◌then◌else◌}
use Rattle.std.specs.List.{list_all}
use Rattle.jm_program.specs.Flags.{is_static, is_synchronized, is_native, is_interface, is_abstract}
use Rattle.jm_program.specs.Names.{same_text, is_class_name, is_unqualified, is_method_name, is_init, is_clinit}
use Rattle.jm_program.specs.Descriptors.{is_method_type, is_kept_method_type, argument_slots}
use Rattle.jm_program.specs.References.{type_fits}
use Rattle.jm_program.specs.Codes.{code_fits}
use Rattle.jm_program.specs.declared.flags.AccessFlags.{AccessFlags}
use Rattle.jm_program.specs.declared.constant.Constant.{Constant}
use Rattle.jm_program.specs.declared.constant.Constant.TheVariants as constant
use Rattle.jm_program.specs.declared.code.Code.{Code}
use Rattle.jm_program.specs.declared.class.Version.{Version}
use Rattle.jm_program.specs.declared.class.Field.{Field}
use Rattle.jm_program.specs.declared.class.Method.{Method}
use Rattle.jm_program.specs.declared.class.ClassParts.{ClassParts}
use Rattle.jm_program.specs.declared.descriptor.BaseType.TheVariants as base
use Rattle.jm_program.specs.declared.descriptor.ElementType.{ElementType}
use Rattle.jm_program.specs.declared.descriptor.ElementType.TheVariants.{Base, Class}
use Rattle.jm_program.specs.declared.descriptor.FieldType.{FieldType}
use Rattle.jm_program.specs.declared.descriptor.MethodDescriptor.{MethodDescriptor}

-- from 45.0 to 52.0, by major and then by minor (JVMS 4.1)
abbrev pub version_fits : Version → Bool
version_fits v = nat_le 45 v.major && (nat_lt v.major 52 || (v.major == 52 && v.minor == 0))

-- java/lang/Object alone has no superclass (JVMS 4.1)
abbrev pub superclass_fits : List ℕ → Option (List ℕ) → Bool
superclass_fits name None = same_text name (codes "java/lang/Object")
superclass_fits name (Some superclass) = is_class_name superclass

-- what a ConstantValue of the kind can begin (JVMS 4.7.2, table 4.7.2-A)
abbrev pub constant_is_of : Constant → ElementType → Bool
constant_is_of (constant.Int n) (Base base.Int) = true
constant_is_of (constant.Int n) (Base base.Short) = true
constant_is_of (constant.Int n) (Base base.Char) = true
constant_is_of (constant.Int n) (Base base.Byte) = true
constant_is_of (constant.Int n) (Base base.Boolean) = true
constant_is_of (constant.Long n) (Base base.Long) = true
constant_is_of (constant.String units) (Class name) = same_text name (codes "java/lang/String")
constant_is_of _ _ = false

-- a static field alone begins with a constant, one of its type
abbrev pub field_constant_fits : AccessFlags → FieldType → Option Constant → Bool
field_constant_fits flags t None = true
field_constant_fits flags t (Some c) = is_static flags && t.dimensions == 0 && constant_is_of c t.element

-- JVMS 4.5
abbrev pub field_fits : Field → Bool
field_fits f = is_unqualified f.name && type_fits f.descriptor && field_constant_fits f.flags f.descriptor f.constant

-- ()V
abbrev pub is_void : MethodDescriptor → Bool
is_void d = length d.parameters == 0 && is_none d.return_type

-- <clinit>()V (JVMS 2.9)
abbrev pub is_class_initializer : Method → Bool
is_class_initializer m = is_clinit m.name && is_void m.descriptor

-- finalize()V, which is left out
abbrev pub is_finalizer : Method → Bool
is_finalizer m = same_text m.name (codes "finalize") && is_void m.descriptor

-- the slots of the arguments, the receiver included (JVMS 4.3.3)
abbrev pub method_slots : Method → ℕ
method_slots m = argument_slots m.descriptor + (if is_static m.flags then 0 else 1)

-- code stands exactly in methods that are not abstract (JVMS 4.7.3); an abstract method is an
-- instance method and no initializer; code in an interface is left out, its <clinit>()V apart
abbrev pub body_fits : Bool → Method → Option Code → Bool
body_fits in_interface m None = is_abstract m.flags && not (is_static m.flags) && not (is_init m.name) && not (is_clinit m.name)
body_fits in_interface m (Some code) = not (is_abstract m.flags) && (not in_interface || is_class_initializer m) && code_fits (method_slots m) code

-- JVMS 4.6; native, static synchronized and finalize()V are left out
abbrev pub method_fits : Bool → Method → Bool
method_fits in_interface m =
    is_method_name m.name
    && is_method_type m.descriptor
    && is_kept_method_type m.descriptor
    && nat_le (method_slots m) 255
    && not (is_native m.flags)
    && not (is_static m.flags && is_synchronized m.flags)
    && not (is_finalizer m)
    && body_fits in_interface m m.code

-- the rules of a class
pub record Fits (c : ClassParts) : Type 0 where
  -- 4.1: the profile reads 45.0 to 52.0
  pub version : IsTrue (version_fits c.version)
  -- 4.2.1
  pub name : IsTrue (is_class_name c.name)
  -- 4.1, super_class
  pub superclass : IsTrue (superclass_fits c.name c.superclass)
  -- 4.1, interfaces
  pub interfaces : IsTrue (list_all is_class_name c.interfaces)
  -- 4.5, 4.7.2
  pub fields : IsTrue (list_all field_fits c.fields)
  -- 4.6, 4.7.3, 4.9.1
  pub methods : IsTrue (list_all (method_fits (is_interface c.flags)) c.methods)
