-- Texts of libsvm's line form, after document 02, request (c). To be read in this order: Form, Items, Lines, Places, Read.
pub mod Form
pub mod Items
pub mod Lines
pub mod Places
pub mod Read
