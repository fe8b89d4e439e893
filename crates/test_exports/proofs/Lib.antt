mod Crossed
