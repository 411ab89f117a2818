pub mod Objectives
